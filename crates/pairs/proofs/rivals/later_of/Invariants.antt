-- `pairs::rivals::later_of` meets its contract: after j rows each instruction has the largest of its later ones below j. Assumes nothing.
use Prim.Native.Nat.{ℕ, ◌<◌, ◌≤◌}
use mathlib.Core.Path.{◌≡◌}
use mathlib.Core.Bool.{Bool}
use lib.ListN.{get_or, length}
use Rattle.unpacked.specs.inside.UnpackedBlock.{high_of}
use Rattle.pairs.specs.inside.PairRows.{Rows}
use Rattle.pairs.proofs.LaterLatencies.{later_of}
use Rattle.pairs.proofs.rivals.later_of.Given as goal

abbrev pub invariant-loop-j : goal.invariant-loop-j
invariant-loop-j l = (l.j ≤ l.n) × (length l.most ≡ 60)
    × ((p : ℕ → ℕ → Bool) → Rows l.n p l.rows → (i : ℕ) → i < l.n → get_or l.most i 0 ≡ later_of p (high_of l.u) i l.j)
