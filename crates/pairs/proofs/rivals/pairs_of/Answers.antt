-- `pairs::rivals::pairs_of` meets its contract: how many those passed have, none above 60. Assumes nothing.
use mathlib.Core.List.{List}
use lib.ListN.{length}
use mathlib.Core.Path.{sym, ◌∙◌, ◌≡◌, ap}
use Prim.Native.Nat.{ℕ}
use native.Mathlib.Omega.{arith}
use Rattle.pairs.specs.declared.row.Row.{Row}
use Rattle.pairs.specs.inside.PairRows.{row, those_of}
use Rattle.pairs.proofs.RowStore.{row_read, total_more, total_none}
use Rattle.std.proofs.lemmas.List.{get_or-take}
use borrow.Author.Rules.{rules}
use Rattle.pairs.proofs.rivals.pairs_of.Goals as goal

pub loop-row-init : goal.loop-row-init
loop-row-init c = (sym (total_none c.args.rows.now), search rules)

pub loop-row-preserved : goal.loop-row-preserved
loop-row-preserved c =
    let t = c.loop-row in
    let e : c.len-sum.result ≡ length (row c.args.rows.now t.row-index)
    = c.len-sum.ensures.0
    ∙ ap (λ (r : Row). length (those_of r)) (c.row-item.is ∙ get_or-take c.args.n c.args.rows.now t.row-index _ (search rules))
    ∙ ap (λ (xs : List ℕ). length xs) (row_read c.args.rows.now t.row-index _ (search rules)) in (
      omega (arith, total_more c.args.rows.now t.row-index, t.invariant.0, e),
      omega (arith, c.len-sum.ensures.1, t.invariant.1),
    )
