-- `rounds::times::last_of` meets its contract: the largest of those passed. Assumes nothing.
use Prim.Native.Nat.{◌≤◌}
use mathlib.Core.Path.{◌≡◌}
use mathlib.Core.List.{map}
use lib.ListN.{length, take}
use Rattle.lists.specs.Sums.{largest}
use Rattle.pairs.specs.inside.PairRows.{finish_ex}
use Rattle.rounds.proofs.times.last_of.Given as goal

abbrev pub invariant-loop-i : goal.invariant-loop-i
invariant-loop-i l = (l.i-index ≤ length l.row) × (l.last ≡ largest (map (finish_ex l.u l.s) (take l.i-index l.row))) × (l.last ≤ 65790)
