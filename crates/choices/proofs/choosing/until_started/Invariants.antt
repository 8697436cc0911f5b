-- `choices::choosing::until_started` meets its contract: the notes hold in each turn, and fewer instructions are without a start. Assumes nothing.
use Prim.Native.Nat.{ℕ, ◌+◌, ◌≤◌, min}
use mathlib.Core.List.{List}
use Rattle.record.specs.declared.Block.{Block}
use Rattle.choices.specs.inside.InstructionRows.{Playing}
use Rattle.choices.specs.inside.PlayNotes.{Notes}
use Rattle.choices.proofs.OneStart.{left}
use Rattle.choices.proofs.choosing.until_started.Given as goal

abbrev pub invariant-loop-x : goal.invariant-loop-x
invariant-loop-x v = (b : Block) (l : List ℕ) → Playing b l v.p.rows → min b.n (v.c + b.w) ≤ v.m → Notes b l v.c v.m v.initial.x → Notes b l v.c v.m v.x

abbrev pub decreases-loop-x : goal.decreases-loop-x
decreases-loop-x l = left l.m l.x
