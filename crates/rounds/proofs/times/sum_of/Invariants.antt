-- `rounds::times::sum_of` meets its contract: the sum of those passed, none above 255. Assumes nothing.
use Prim.Native.Nat.{◌*◌, ◌≤◌}
use mathlib.Core.Path.{◌≡◌}
use mathlib.Core.List.{map}
use lib.ListN.{length, take}
use Rattle.lists.specs.Sums.{sum}
use Rattle.unpacked.specs.inside.UnpackedBlock.{high_of}
use Rattle.rounds.proofs.times.sum_of.Given as goal

abbrev pub invariant-loop-i : goal.invariant-loop-i
invariant-loop-i l = (l.i-index ≤ length l.row) × (l.sum ≡ sum (map (high_of l.u) (take l.i-index l.row))) × (l.sum ≤ 255 * l.i-index)
