-- The sources of all registers, by register. Only promises of inside functions use these words.
use Rattle.std.specs.Prelude.{ℕ, ◌<◌, ◌≡◌, List, get_or}
use Rattle.record.specs.declared.Block.{Block}
use Rattle.model.specs.Nodes.{source}
use Rattle.unpacked.specs.inside.UnpackedBlock.{code}

-- w has for each register its source where instruction j of b reads it: one more than its number, or 0 where there is none
pub record Sources (b : Block) (j : ℕ) (w : List ℕ) : Type 0 where
  pub each : (r : ℕ) → r < 256 → get_or w r 0 ≡ code (source b r j)
