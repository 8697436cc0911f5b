-- "Refusal numbers, tested in this order": tests 7, 8 and 9, and those that each operation of the play makes.
use Rattle.std.specs.Prelude.{ℕ, Bool, not, ◌||◌, List, [], ◌∷◌, ◌++◌, length, get_or, leb, ltb, eqb}
use Rattle.record.specs.Refusals.{Test, test, first_fault, output_test, block_tests}
use Rattle.record.specs.declared.Block.{Block}
use Rattle.record.specs.declared.Reason.TheVariants.{Latencies, Latency, State as StateReason}
use Rattle.model.specs.Nodes.{entry}
use Rattle.model.specs.Cycles.{State, unfit, play_numbers}

-- "a latency outside its lo to hi": that of instruction i
unfoldable pub wrong : Block → List ℕ → ℕ → Bool
wrong b l i = ltb (get_or l i 0) (entry b i).lo || ltb (entry b i).hi (get_or l i 0)

-- "7 | latency list not n long | 0"
unfoldable pub list_test : Block → List ℕ → Test
list_test b l = test Latencies (not (eqb (length l) b.n))

-- "8 | a latency outside its lo to hi | lowest such instruction"
unfoldable pub latency_test : Block → List ℕ → Test
latency_test b l = first_fault Latency 0 b.n (wrong b l)

-- "9 | play state unfit: .. | 0"
unfoldable pub state_test : Block → State → Test
state_test b p = test StateReason (unfit b p)

-- "Each operation makes the tests that its inputs have": a latency list is tested by 7 and 8
unfoldable pub list_tests : Block → List ℕ → List Test
list_tests b l = list_test b l ∷ latency_test b l ∷ []

-- a cycle makes tests 4, 5, 7, 8 and 9
unfoldable pub cycle_tests : Block → List ℕ → State → List Test
cycle_tests b l p = block_tests b ++ (list_tests b l ++ (state_test b p ∷ []))

-- a play makes tests 4, 5, 6, 7 and 8: "at least .. 15 × n for a play"
unfoldable pub play_tests : Block → List ℕ → List ℕ → List Test
play_tests b l o = block_tests b ++ (output_test (leb (play_numbers b) (length o)) ∷ list_tests b l)

-- one that asks for the length alone has no output, and makes tests 4, 5, 7 and 8
unfoldable pub length_tests : Block → List ℕ → List Test
length_tests b l = block_tests b ++ list_tests b l
