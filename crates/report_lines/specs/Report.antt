-- "Blocks worked by hand", its end: what the report program prints, from "Line one is the header" on.
use Rattle.std.specs.Prelude.{ℕ, ◌+◌, ◌*◌, ◌/◌, List, [], ◌∷◌, ◌++◌, length, take, drop, eqb}
use Prim.Native.Char.{code}
use Rattle.lists.specs.Lists.{pick, joined}
use Rattle.lists.specs.Bytes.{ascii}
use Rattle.record.specs.Layout.{decoded}
use Rattle.record.specs.Refusals.{read_verdict, accepts}
use Rattle.record.specs.declared.Block.{Block}
use Rattle.analysis.specs.Result.{summary_of}
use Rattle.analysis.specs.declared.Summary.{Summary}
use Rattle.report_lines.specs.Text.{decimal, spaced}

-- "block origin n bound rounds pairs apart", a line
unfoldable pub header : List ℕ
header = ascii "block origin n bound rounds pairs apart\n"

-- "origin (C or P)": 1 is classroom, 2 production
abbrev pub letter : ℕ → ℕ
letter origin = pick (eqb origin 1) (code "C") (code "P")

-- "per record: block number, origin (C or P), n, bound, rounds, pairs, apart": the line of what an analysis says
unfoldable pub summary_line : Summary → List ℕ
summary_line s =
    spaced
    (decimal s.number
    ∷ (letter s.origin ∷ [])
    ∷ decimal s.n
    ∷ decimal s.bound
    ∷ decimal s.rounds
    ∷ decimal s.pairs
    ∷ decimal s.apart
    ∷ [])

-- the line of a block
unfoldable pub block_line : Block → List ℕ
block_line b = summary_line (summary_of b)

-- "for a refusal, `at`, the record's index from 0, `refused`, its number"
unfoldable pub refusal_line : ℕ → ℕ → List ℕ
refusal_line index number = spaced (ascii "at" ∷ decimal index ∷ ascii "refused" ∷ decimal number ∷ [])

-- the line of the bytes s as the record at an index
unfoldable pub line : ℕ → List ℕ → List ℕ
line index s = pick (accepts (read_verdict s)) (block_line (decoded s)) (refusal_line index (read_verdict s).0)

-- "the next 512 bytes follow": the bytes of record k
unfoldable pub record_at : List ℕ → ℕ → List ℕ
record_at s k = take 512 (drop (512 * k) s)

-- how many records there are, a short tail counted
unfoldable pub records : List ℕ → ℕ
records s = (length s + 511) / 512

-- the lines of the records of s, the first of which has the index `first`
unfoldable pub lines_from : ℕ → List ℕ → List ℕ
lines_from first s = joined (records s) (λ k. line (first + k) (record_at s k))

-- "Line one is the header; then per record": the whole report
unfoldable pub report : List ℕ → List ℕ
report s = header ++ lines_from 0 s
