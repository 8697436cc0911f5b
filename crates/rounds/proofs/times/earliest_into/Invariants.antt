-- `rounds::times::earliest_into` meets its contract: after i instructions the times are filled to their nodes. Assumes nothing.
use Prim.Native.Nat.{◌*◌, ◌≤◌}
use mathlib.Core.Path.{◌≡◌}
use lib.ListN.{length}
use Rattle.lists.proofs.BufferFill.{Filled}
use Rattle.record.specs.declared.Block.{Block}
use Rattle.model.specs.Cycles.{ready}
use Rattle.model.specs.Nodes.{lowest}
use Rattle.unpacked.specs.inside.UnpackedBlock.{Unpacked}
use Rattle.rounds.proofs.times.earliest_into.Given as goal

abbrev pub invariant-loop-i : goal.invariant-loop-i
invariant-loop-i l = (l.n ≡ l.v.shape.n) × (l.i ≤ l.n) × (length l.s ≡ 300) × ((b : Block) → Unpacked b l.v.shape l.v.instructions → Filled (ready b (lowest b)) l.initial.s (5 * l.i) l.s)
