-- "Refusal numbers, tested in this order": the operations as a program in C or Rust calls them, from a record's bytes on. "Each
-- operation makes the tests that its inputs have": 1 to 5 of the record, then 6 of the output, then 7 and 8 of the latency list.
use Rattle.std.specs.Prelude.{ℕ, ◌+◌, ◌*◌, ◌≡◌, List, [], ◌∷◌, ◌++◌, length, drop, eqb, leb}
use Rattle.lists.specs.Lists.{pick}
use Rattle.record.specs.Layout.{decoded, encoded}
use Rattle.record.specs.Refusals.{Test, verdict, accepts, output_test, read_tests, read_verdict}
use Rattle.record.specs.Promises.{ByteString}
use Rattle.model.specs.Nodes.{chosen}
use Rattle.model.specs.Cycles.{play_length, play_numbers, play_table}
use Rattle.model.specs.Rounds.{window_numbers, window_table}
use Rattle.analysis.specs.Result.{result_record}
use Rattle.play.specs.Refusals.{list_tests}

-- "A refusal is a number with the place of the first fault": both in one number, 0 where nothing is refused
unfoldable pub coded : ℕ × ℕ → ℕ
coded v = v.0 * 65536 + v.1

-- "Each operation makes the tests that its inputs have": checking the bytes s makes 1 to 5; r is the number handed back
pub record ChecksBytes (s : List ℕ) (r : ℕ) : Type 0 where
  pub bytes : ByteString s
  pub answer : r ≡ coded (read_verdict s)

-- an operation on the bytes s that makes the tests `more` after those of the record, with the number r handed back, and lent
-- memory that held o and then holds o': what is made, or, at a refusal, "no lent byte or number is written"
pub record Door {A : Type 0} (s : List ℕ) (more : List Test) (made o : A) (r : ℕ) (o' : A) : Type 0 where
  pub bytes : ByteString s
  pub answer : r ≡ coded (verdict (read_tests s ++ more))
  pub output : o' ≡ pick (accepts (verdict (read_tests s ++ more))) made o

-- "Output lengths: exactly 512 for a record"
abbrev pub record_room : List ℕ → List Test
record_room o = output_test (eqb (length o) 512) ∷ []

-- "at least 30 × n numbers for windows"
abbrev pub windows_room : List ℕ → List ℕ → List Test
windows_room s o = output_test (leb (window_numbers (decoded s)) (length o)) ∷ []

-- "and 15 × n for a play", and then its latency list
abbrev pub play_room : List ℕ → List ℕ → List ℕ → List Test
play_room s l o = output_test (leb (play_numbers (decoded s)) (length o)) ∷ list_tests (decoded s) l

-- "It reads and writes block records": writing the record of the block that s says
abbrev pub RecodesBytes : List ℕ → List ℕ → ℕ → List ℕ → Type 0
RecodesBytes s o = Door s (record_room o) (encoded (decoded s)) o

-- "The analysis of a block value writes its result record": that of the block that s says
abbrev pub AnalysesBytes : List ℕ → List ℕ → ℕ → List ℕ → Type 0
AnalysesBytes s o = Door s (record_room o) (result_record (decoded s)) o

-- "the window table is a second operation on the same value"; "Numbers beyond those stay untouched."
abbrev pub WindowsBytes : List ℕ → List ℕ → ℕ → List ℕ → Type 0
WindowsBytes s o = Door s (windows_room s o) (window_table (decoded s) ++ drop (window_numbers (decoded s)) o) o

-- "plays a block cycle by cycle under chosen latencies": the play table under the latencies l
abbrev pub PlaysBytes : List ℕ → List ℕ → List ℕ → ℕ → List ℕ → Type 0
PlaysBytes s l o = Door s (play_room s l o) (play_table (decoded s) (chosen (decoded s) l) ++ drop (play_numbers (decoded s)) o) o

-- "its length is CM(n−1)'s finish.", to one number, which was o: there is no output whose length could be wrong
abbrev pub PlayLengthBytes : List ℕ → List ℕ → ℕ → ℕ → ℕ → Type 0
PlayLengthBytes s l o = Door s (list_tests (decoded s) l) (play_length (decoded s) (chosen (decoded s) l)) o
