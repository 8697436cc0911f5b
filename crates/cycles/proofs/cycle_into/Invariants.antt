-- `cycles::cycle_into` meets its contract: the turns of the nodes passed. Assumes nothing.
use mathlib.Core.Path.{◌≡◌}
use Prim.Native.Nat.{◌≤◌, ◌*◌}
use Rattle.record.specs.declared.Block.{Block}
use Rattle.model.specs.Nodes.{chosen}
use Rattle.unpacked.specs.inside.UnpackedBlock.{Unpacked}
use Rattle.cycles.specs.inside.PlayFacts.{Lent, Timed}
use Rattle.cycles.proofs.CycleByNode.{Passed}
use Rattle.cycles.proofs.cycle_into.Given as goal

abbrev pub invariant-loop-v : goal.invariant-loop-v
invariant-loop-v l = (l.end ≡ 5 * l.u.shape.n) × (l.v ≤ l.end) × Lent l.u l.lat l.s
    × ((b : Block) → Unpacked b l.u.shape l.u.instructions → Timed l.t l.initial.s → Passed b (chosen b l.lat) l.t l.initial.s l.v l.s l.ends)
