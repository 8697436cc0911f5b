-- `pairs::rivals::later_row` meets its contract: each element of those passed has been raised. Assumes nothing.
use Prim.Native.Nat.{ℕ, ◌≤◌, max}
use mathlib.Core.Path.{◌≡◌}
use lib.Dec.{eqb}
use lib.ListN.{get_or, length, take}
use Rattle.lists.specs.Lists.{pick}
use Rattle.lists.specs.Sums.{any}
use Rattle.pairs.proofs.rivals.later_row.Given as goal

abbrev pub invariant-loop-i : goal.invariant-loop-i
invariant-loop-i l = (l.i-index ≤ length l.row) × (length l.most ≡ 60) × ((i : ℕ) → get_or l.most i 0 ≡ max (get_or l.initial.most i 0) (pick (any (eqb i) (take l.i-index l.row)) l.x 0))
