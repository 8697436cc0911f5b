-- The numbers of a row. Only promises of inside functions use these words.
use Rattle.std.specs.Prelude.{ℕ, ◌<◌, List, get_or}

-- no number of a list leads beyond the 60 instructions
abbrev pub Inside : List ℕ → Type 0
Inside xs = (k : ℕ) → get_or xs k 0 < 60
