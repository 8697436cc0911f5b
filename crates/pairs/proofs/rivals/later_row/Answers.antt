-- `pairs::rivals::later_row` meets its contract: each element of those passed has been raised. Assumes nothing.
use Prim.Native.Nat.{ℕ, max}
use mathlib.Core.Path.{◌∙◌, ◌≡◌, ap}
use mathlib.Core.List.{List}
use native.Mathlib.Omega.{arith}
use lib.Dec.{eqb}
use lib.ListN.{get_or, length, length-set}
use Rattle.lists.specs.Lists.{pick}
use Rattle.lists.specs.Sums.{any}
use Rattle.lists.proofs.Fronts.{take_end}
use Rattle.pairs.proofs.LaterLatencies.{raise_more}
use borrow.Author.Rules.{rules}
use Rattle.pairs.proofs.rivals.later_row.Goals as goal

pub loop-i-init : goal.loop-i-init
unfolding any
loop-i-init c = (search rules, search rules, λ i. omega arith)

pub loop-i-preserved : goal.loop-i-preserved
loop-i-preserved c =
    let t = c.loop-i in (
      search rules,
      simp length-set (search rules),
      raise_more c.args.x c.args.row.now c.args.most.now t.most t.i-index c.from-i.result (search rules) c.from-i.ensures
          (omega (arith, c.requires t.i-index, c.from-i.ensures, t.invariant.1)) t.invariant.2 _ c.max.ensures,
    )

pub returns : goal.returns
returns c =
    let t = c.loop-i in
    let e : length c.args.row.now ≡ t.i-index = search rules in
    record {
      long = t.invariant.1;
      each = λ i.
          t.invariant.2 i
          ∙ ap (λ (r : List ℕ). max (get_or c.args.most.now i 0) (pick (any (eqb i) r) c.args.x 0)) (take_end c.args.row.now t.i-index e);
    }
