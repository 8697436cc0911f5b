-- `pairs::contenders::contenders_of` meets its contract: the front of the row has those of the instructions passed. Assumes nothing.
use Prim.Native.Nat.{◌+◌, ◌-◌, ◌<◌}
use mathlib.Core.Path.{◌∙◌, ◌≡◌, sym}
use mathlib.Core.Bool.{◌&&◌, not}
use native.Mathlib.Omega.{arith}
use lib.Dec.{eqb}
use lib.ListN.{length-set}
use Rattle.lists.specs.Lists.{pick}
use Rattle.lists.proofs.Elements.{all_set}
use Rattle.lists.proofs.NumbersWhere.{numbers_where_end, numbers_where_none}
use Rattle.unpacked.specs.inside.UnpackedBlock.{kind_of}
use Rattle.pairs.specs.inside.RowSteps.{nearby}
use Rattle.pairs.proofs.RowStore.{counted, counted_most, numbers_where_store}
use borrow.Author.Rules.{rules}
use Rattle.pairs.specs.inside.PairRows.{chain_at}
use Rattle.pairs.proofs.contenders.contenders_of.Goals as goal

pub loop-i-init : goal.loop-i-init
loop-i-init c = (
  search rules,
  omega arith,
  omega arith,
  omega arith,
  search rules,
  sym (numbers_where_none _ c.saturating_sub-first.result),
  c.args.row.now.inside,
)

pub loop-i-preserved : goal.loop-i-preserved
loop-i-preserved c =
    let t = c.loop-i in
    let m = c.from-len in
    let marked : m.result
    ≡ pick (eqb (kind_of c.args.u.now t.i) (kind_of c.args.u.now c.args.j) && not (chain_at c.args.a.now (c.args.j + 1) (t.i + 1))) 1 0
    = m.ensures ∙ counted _ in (
      t.invariant.0,
      omega arith,
      omega arith,
      omega (arith, counted_most),
      simp length-set (search rules),
      rw marked (numbers_where_store _ t.row.numbers _ t.i t.len (search rules) (search rules) t.invariant.5),
      all_set (λ y. y < 60) t.row.numbers t.len t.i t.invariant.6 (search rules),
    )

pub returns : goal.returns
unfolding nearby
returns c =
    let t = c.loop-i in
    let first = c.saturating_sub-first.result in
    let e : t.i - first ≡ c.args.j - first = search rules in
    rw (← t.invariant.0) (t.invariant.5 ∙ numbers_where_end _ _ _ _ e)
