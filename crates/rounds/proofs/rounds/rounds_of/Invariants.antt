-- `rounds::rounds::rounds_of` meets its contract: before round k its rows have its rivals. Assumes nothing.
use Prim.Native.Nat.{◌+◌, ◌-◌, ◌≤◌}
use mathlib.Core.Path.{◌≡◌}
use Rattle.record.specs.declared.Block.{Block}
use Rattle.unpacked.specs.inside.UnpackedBlock.{Unpacked}
use Rattle.pairs.specs.inside.PairRows.{pair_total}
use Rattle.rounds.proofs.RoundLoop.{BeforeRound}
use Rattle.rounds.proofs.rounds.rounds_of.Given as goal

abbrev pub invariant-loop-at : goal.invariant-loop-at
invariant-loop-at l = (l.times.early ≡ l.initial.times.early) × (l.k + pair_total l.n l.rows ≤ 3601)
    × ((b : Block) → Unpacked b l.v.shape l.v.instructions → BeforeRound b l.k l.rows)

abbrev pub decreases-loop-at : goal.decreases-loop-at
decreases-loop-at l = 3602 - l.k
