-- `rounds::times::round_into` meets its contract: after i instructions the times are filled to their nodes. Assumes nothing.
use Prim.Native.Nat.{◌*◌, ◌≤◌}
use mathlib.Core.Path.{◌≡◌}
use lib.ListN.{length}
use Rattle.lists.proofs.BufferFill.{Filled}
use Rattle.record.specs.declared.Block.{Block}
use Rattle.model.specs.Paths.{Pairs}
use Rattle.model.specs.Rounds.{latest_start, rival}
use Rattle.unpacked.specs.inside.UnpackedBlock.{Unpacked}
use Rattle.pairs.specs.inside.PairRows.{Even, Rows}
use Rattle.rounds.proofs.times.round_into.Given as goal

abbrev pub invariant-loop-i : goal.invariant-loop-i
invariant-loop-i l = (l.n ≡ l.v.shape.n) × (l.i ≤ l.n) × (length l.s ≡ 300)
    × ((b : Block) (con known : Pairs) → Unpacked b l.v.shape l.v.instructions → Rows b.n (rival con known) l.rows → Even b.n (rival con known)
    → Filled (latest_start b (rival con known)) l.initial.s (5 * l.i) l.s)
