-- The number of each stage. Only promises of inside functions use this word.
use Rattle.std.specs.Prelude.{ℕ}
use Rattle.model.specs.Nodes.{IF, ID, EX, WB, CM}
use Rattle.unpacked.specs.declared.Stage.{Stage}
use Rattle.unpacked.specs.declared.Stage.TheVariants.{Fetch, Decode, Execute, Write, Commit}

-- the number of a stage
abbrev pub number : Stage → ℕ
number Fetch = IF
number Decode = ID
number Execute = EX
number Write = WB
number Commit = CM
