-- `choices::table::table_into` meets its contract: in each turn one instruction commits, and its row is written. Assumes nothing.
use Prim.Native.Nat.{◌+◌, ◌*◌, ◌≤◌}
use mathlib.Core.Path.{◌≡◌}
use lib.ListN.{length}
use Rattle.record.specs.declared.Block.{Block}
use Rattle.unpacked.specs.inside.UnpackedBlock.{Shapes}
use Rattle.choices.specs.inside.InstructionRows.{Playing}
use Rattle.choices.specs.inside.PlayNotes.{Notes}
use Rattle.choices.proofs.RowWritten.{table_in}
use Rattle.choices.proofs.table.table_into.Given as goal

abbrev pub invariant-loop-c : goal.invariant-loop-c
invariant-loop-c l = (l.c ≤ l.n) × (length l.out ≡ length l.initial.out)
    × ((b : Block) → Playing b l.lat l.p.rows → Shapes b l.p.shape → Notes b l.lat l.c l.m l.x × (l.m ≤ l.c + b.w) × (l.out ≡ table_in b l.lat l.initial.out (5 * l.c)))
