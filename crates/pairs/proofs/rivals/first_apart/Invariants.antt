-- `pairs::rivals::first_apart` meets its contract: no row passed has one that is apart, and of this row none of those passed is.
-- Assumes nothing.
use Prim.Native.Nat.{ℕ, ◌<◌, ◌≤◌}
use mathlib.Core.Path.{◌≡◌}
use mathlib.Core.Bool.{false}
use lib.ListN.{take}
use Rattle.lists.specs.Sums.{any}
use Rattle.pairs.specs.inside.PairRows.{apart_ex, row}
use Rattle.pairs.proofs.rivals.first_apart.Given as goal

abbrev pub invariant-loop-i : goal.invariant-loop-i
invariant-loop-i l = (l.at ≡ l.n) × (any (apart_ex l.u l.times.early l.times.late l.j) (take l.i-index (row l.rows l.j)) ≡ false)

abbrev pub invariant-scan : goal.invariant-scan
invariant-scan l = (l.at ≡ l.n) × (l.j ≤ l.n) × ((i : ℕ) → i < l.j → any (apart_ex l.u l.times.early l.times.late i) (row l.rows i) ≡ false)
