-- `cycles::unit_ends` meets its contract: the ends of the instructions passed. Assumes nothing.
use mathlib.Core.Path.{◌≡◌}
use Prim.Native.Nat.{ℕ}
use lib.ListN.{length}
use Rattle.record.specs.declared.Block.{Block}
use Rattle.model.specs.Nodes.{chosen}
use Rattle.unpacked.specs.inside.UnpackedBlock.{Instructions}
use Rattle.cycles.specs.inside.PlayFacts.{Timed}
use Rattle.cycles.proofs.UnitsFree.{Before}
use Rattle.cycles.proofs.unit_ends.Given as goal

abbrev pub invariant-loop-i : goal.invariant-loop-i
invariant-loop-i l = (length l.ends ≡ 4)
    × ((b : Block) (t : ℕ) → l.u.shape.n ≡ b.n → Instructions b l.u.instructions → Timed t l.s → Before b (chosen b l.lat) t l.s l.i l.ends)
