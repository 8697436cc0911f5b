-- `unpacked::blocks::instructions_of` meets its contract: `last` has the sources of all registers, and the instructions passed
-- are filled in. Assumes nothing.
use mathlib.Core.Path.{◌≡◌}
use Prim.Native.Nat.{◌≤◌}
use lib.ListN.{length}
use Rattle.unpacked.specs.inside.Sources.{Sources}
use Rattle.unpacked.proofs.BlockInstructions.{InstructionsTo}
use Rattle.unpacked.proofs.blocks.instructions_of.Given as goal

abbrev pub invariant-loop-j : goal.invariant-loop-j
invariant-loop-j l = (l.n ≡ l.b.n) × (l.j ≤ l.n) × (length l.u ≡ 60) × Sources l.b l.j l.last × InstructionsTo l.b l.u l.j
