-- "Refusal numbers, tested in this order". The definitions stand in the order of the table: tests 1 to 6 here. Tests 7 to 9
-- speak of latencies and play states; they stand in crates/play/specs/Refusals, 9 by `unfit` in crates/model/specs/Cycles.
use Rattle.std.specs.Prelude.{ℕ, Bool, not, List, [], ◌∷◌, ◌++◌, length, ltb, eqb, Result, Ok as Accepted, Err as Refused}
use Rattle.lists.specs.Lists.{pick, least}
use Rattle.lists.specs.Bytes.{little}
use Rattle.record.specs.Check.{check_of}
use Rattle.record.specs.Rules.{outside, broken}
use Rattle.record.specs.Layout.{encoded}
use Rattle.record.specs.declared.Block.{Block}
use Rattle.record.specs.declared.Reason.{Reason}
use Rattle.record.specs.declared.Reason.TheVariants.{Length, Check, Letters, Header, Rule, Output, Latencies, Latency, State}

-- the number that the table gives a reason
abbrev pub number_of : Reason → ℕ
number_of Length = 1
number_of Check = 2
number_of Letters = 3
number_of (Header k) = 4
number_of (Rule i) = 5
number_of Output = 6
number_of Latencies = 7
number_of (Latency i) = 8
number_of State = 9

-- its place: what the reason carries, and 0 where the table says 0
abbrev pub place_of : Reason → ℕ
place_of Length = 0
place_of Check = 0
place_of Letters = 0
place_of (Header k) = k
place_of (Rule i) = i
place_of Output = 0
place_of Latencies = 0
place_of (Latency i) = i
place_of State = 0

-- the answer of an operation that hands nothing else back
abbrev pub Answer : Type 0
Answer = Result (Unit {0}) Reason

-- what an answer means, `Ok` being the case Accepted and `Err` the case Refused: "A refusal is a number with the place of the
-- first fault"; accepted is 0 and 0
abbrev pub meaning : {A : Type 0} → Result A Reason → ℕ × ℕ
meaning (Accepted x) = (0, 0)
meaning (Refused r) = (number_of r, place_of r)

-- a test, one for each number of the table: the reason of its refusal, and whether the refusal is given
pub record Test : Type 0 where
  pub reason : Reason
  pub given : Bool

-- the test of a reason, and whether its refusal is given
abbrev pub test : Reason → Bool → Test
test r g = record { reason = r; given = g }

-- a test whose place is the first from a on and below b at which there is a fault
abbrev pub first_fault : (ℕ → Reason) → ℕ → ℕ → (ℕ → Bool) → Test
first_fault why a b fault = test (why (least a b fault)) (ltb (least a b fault) b)

-- number and place of the first refusal that is given; 0 and 0 where none is
unfoldable pub verdict : List Test → ℕ × ℕ
verdict [] = (0, 0)
verdict (t ∷ ts) = pick t.given (number_of t.reason, place_of t.reason) (verdict ts)

-- "1 | record not 512 bytes | 0"
unfoldable pub length_test : List ℕ → Test
length_test s = test Length (not (eqb (length s) 512))

-- "2 | check differs | 0"
unfoldable pub check_test : List ℕ → Test
check_test s = test Check (not (eqb (check_of s) (little 4 s 508)))

-- "3 | letters differ | 0"
unfoldable pub letters_test : List ℕ → Test
letters_test s = test Letters (ltb (least 0 4 (outside s)) 4)

-- "4 | header byte 4–27 outside its range | lowest such byte"
unfoldable pub header_test : List ℕ → Test
header_test s = first_fault Header 4 28 (outside s)

-- "5 | an entry breaks its rule | lowest such entry, 0–59"
unfoldable pub entry_test : List ℕ → Test
entry_test s = first_fault Rule 0 60 (broken s)

-- "6 | output length wrong | 0"
unfoldable pub output_test : Bool → Test
output_test right = test Output (not right)

-- "Each operation makes the tests that its inputs have": a byte string is tested by 1 to 5
unfoldable pub read_tests : List ℕ → List Test
read_tests s = length_test s ∷ check_test s ∷ letters_test s ∷ header_test s ∷ entry_test s ∷ []

-- "Writer, analysis and play test a block value by 4 and 5 with the same places": the places of its record
unfoldable pub block_tests : Block → List Test
block_tests b = header_test (encoded b) ∷ entry_test (encoded b) ∷ []

-- "Output lengths: exactly 512 for a record"
unfoldable pub write_tests : Block → List ℕ → List Test
write_tests b o = block_tests b ++ (output_test (eqb (length o) 512) ∷ [])

-- the verdict of a byte string
abbrev pub read_verdict : List ℕ → ℕ × ℕ
read_verdict s = verdict (read_tests s)

-- the verdict of a block value
abbrev pub block_verdict : Block → ℕ × ℕ
block_verdict b = verdict (block_tests b)

-- the verdict of writing b to an output that holds o
abbrev pub write_verdict : Block → List ℕ → ℕ × ℕ
write_verdict b o = verdict (write_tests b o)

-- no refusal is given
abbrev pub accepts : ℕ × ℕ → Bool
accepts v = eqb v.0 0

-- at a refusal "no lent byte or number is written": what the output holds at the end
unfoldable pub written : Block → List ℕ → List ℕ
written b o = pick (accepts (write_verdict b o)) (encoded b) o
