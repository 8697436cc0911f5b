-- `choices::notes::decode_until` meets its contract: the instructions passed are noted. Assumes nothing.
use Prim.Native.Nat.{ℕ, ◌+◌, ◌≤◌, min}
use mathlib.Core.List.{List}
use Rattle.record.specs.declared.Block.{Block}
use Rattle.unpacked.specs.inside.UnpackedBlock.{Shapes}
use Rattle.choices.specs.inside.InstructionRows.{Playing}
use Rattle.choices.specs.inside.PlayNotes.{Notes}
use Rattle.choices.specs.declared.Row.{Row}
use Rattle.choices.proofs.notes.decode_until.Given as goal

abbrev pub invariant-loop-i : goal.invariant-loop-i
invariant-loop-i v = (v.from ≤ v.i) × (v.from ≤ v.end → v.i ≤ v.end)
    × ((b : Block) (l : List ℕ) (rows : List Row) (c : ℕ) → Playing b l rows → Shapes b v.p.shape → v.end ≤ min b.n (c + b.w)
    → Notes b l c v.from v.initial.x → Notes b l c v.i v.x)
