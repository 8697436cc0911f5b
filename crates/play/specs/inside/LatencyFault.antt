-- Where the first latency stands that is outside its range.
use Rattle.std.specs.Prelude.{ℕ, ◌≡◌, List}
use Rattle.lists.specs.Lists.{least}
use Rattle.record.specs.declared.Block.{Block}
use Rattle.play.specs.Refusals.{wrong}

-- i is the first instruction whose latency is outside its lo to hi, or n where there is none
abbrev pub WrongAt : Block → List ℕ → ℕ → Type 0
WrongAt b l i = i ≡ least 0 b.n (wrong b l)
