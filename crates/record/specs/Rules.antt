-- "Block record, 512 bytes": the ranges of the header bytes, and the rule of an entry.
use Rattle.std.specs.Prelude.{ℕ, ◌+◌, ◌*◌, Bool, true, ◌||◌, not, List, [], ◌∷◌, ◌++◌, map, get_or, replicate, leb, ltb, eqb}
use Rattle.lists.specs.Lists.{pick, tab, exists}
use Rattle.lists.specs.Bytes.{ascii}

-- bytes that have one allowed value each
abbrev pub fixed : List ℕ → List (ℕ × ℕ)
fixed = map (λ x. (x, x))

-- "Each header byte has a lowest and a highest allowed value": the table, row by row
unfoldable pub header_table : List (ℕ × ℕ)
header_table =
    -- 0–3 letters BLK1
    fixed (ascii "BLK1")
    ++ (
    -- 4 n, instructions
    (1, 60)
    -- 5 Q, instruction buffer
    ∷ (1, 16)
    -- 6 W, reorder buffer
    ∷ (1, 32)
    -- 7, 8, 9 fetch, decode, commit width f, d, c
    ∷ (1, 4)
    ∷ (1, 4)
    ∷ (1, 4)
    -- 10 origin: 1 classroom, 2 production
    ∷ (1, 2)
    -- 11 spare
    ∷ (0, 0)
    -- 12–15 block number, any
    ∷ (0, 255)
    ∷ (0, 255)
    ∷ (0, 255)
    ∷ (0, 255)
    -- 16–27 spare
    ∷ replicate 12 (0, 0))

-- the lowest allowed values
unfoldable pub lows : List ℕ
lows = map (λ r. r.0) header_table

-- the highest
unfoldable pub highs : List ℕ
highs = map (λ r. r.1) header_table

-- header byte k is outside its range
unfoldable pub outside : List ℕ → ℕ → Bool
outside s k = ltb (get_or s k 0) (get_or lows k 0) || ltb (get_or highs k 0) (get_or s k 0)

-- "From byte 28: 60 entries of 8 bytes": where entry i begins
abbrev pub at : ℕ → ℕ
at i = 28 + 8 * i

-- byte k of entry i
abbrev pub entry_byte : List ℕ → ℕ → ℕ → ℕ
entry_byte s i k = get_or s (at i + k) 0

-- "each register 0–63 or 255 for none"
unfoldable pub register : ℕ → Bool
register r = leb r 63 || eqb r 255

-- "Byte 0 unit kind (0 integer, 1 multiplier, 2 floating point, 3 load/store)"
unfoldable pub kind : ℕ → Bool
kind k = leb k 3

-- the rules of the eight bytes x 0 to x 7 of an entry below n, each in its byte's place
unfoldable pub used_bytes : (ℕ → ℕ) → List Bool
used_bytes x =
    -- "unit kind"
    kind (x 0)
    -- "1 lowest latency lo, at least 1"
    ∷ leb 1 (x 1)
    -- "2 highest latency hi, at least lo"
    ∷ leb (x 1) (x 2)
    -- "3 register written"
    ∷ register (x 3)
    -- "4 and 5 registers read"
    ∷ register (x 4)
    ∷ register (x 5)
    -- "6 and 7 zero"
    ∷ eqb (x 6) 0
    ∷ eqb (x 7) 0
    ∷ []

-- "Entries from n on are all zero"
unfoldable pub unused_bytes : (ℕ → ℕ) → List Bool
unused_bytes x = tab 8 (λ k. eqb (x k) 0)

-- byte k of entry i, whose eight bytes are x, breaks its rule where there are n instructions
unfoldable pub wrong_byte : ℕ → ℕ → (ℕ → ℕ) → ℕ → Bool
wrong_byte n i x k = not (get_or (pick (ltb i n) (used_bytes x) (unused_bytes x)) k true)

-- entry i of a record breaks its rule: some byte of it does
unfoldable pub broken : List ℕ → ℕ → Bool
broken s i = exists 0 8 (wrong_byte (get_or s 4 0) i (entry_byte s i))
