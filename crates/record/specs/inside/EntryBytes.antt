-- The bytes of an entry by number, and whether one of eight rules is broken. Only promises of inside functions use them.
use Rattle.std.specs.Prelude.{ℕ, Bool, true, not, List, get_or}
use Rattle.lists.specs.Lists.{exists}
use Rattle.record.specs.Rules.{wrong_byte}
use Rattle.record.specs.Layout.{entry_bytes}
use Rattle.record.specs.declared.Entry.{Entry}

-- byte k of an entry's eight
abbrev pub byte_of : Entry → ℕ → ℕ
byte_of e k = get_or (entry_bytes e) k 0

-- one of eight rules is broken
abbrev pub some_broken : List Bool → Bool
some_broken kept = exists 0 8 (λ k. not (get_or kept k true))

-- an entry, as entry i where there are n instructions, has a wrong byte
abbrev pub wrong_entry : ℕ → ℕ → Entry → Bool
wrong_entry n i e = exists 0 8 (wrong_byte n i (byte_of e))
