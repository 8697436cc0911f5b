-- `pairs::rivals::pairs_of` meets its contract: how many those passed have, none above 60. Assumes nothing.
use Prim.Native.Nat.{◌*◌, ◌≤◌}
use mathlib.Core.Path.{◌≡◌}
use Rattle.pairs.specs.inside.PairRows.{pair_total}
use Rattle.pairs.proofs.rivals.pairs_of.Given as goal

abbrev pub invariant-loop-row : goal.invariant-loop-row
invariant-loop-row l = (l.sum ≡ pair_total l.row-index l.rows) × (l.sum ≤ 60 * l.row-index)
