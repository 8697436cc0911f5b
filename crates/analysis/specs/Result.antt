-- "Result record, 512 bytes", and what the two operations leave in their output.
use Rattle.std.specs.Prelude.{ℕ, List, [], ◌∷◌, ◌++◌, length, drop, replicate, eqb, leb, ltb}
use Rattle.lists.specs.Lists.{pick, joined}
use Rattle.lists.specs.Bytes.{ascii, bytes}
use Rattle.record.specs.Check.{check_of}
use Rattle.record.specs.Refusals.{Test, verdict, accepts, output_test, block_tests}
use Rattle.record.specs.declared.Block.{Block}
use Rattle.model.specs.Nodes.{EX, CM, node, highest}
use Rattle.model.specs.Cycles.{start, finish}
use Rattle.model.specs.Rounds.{earliest, windows, bound, round_count, pair_count, apart_count, window_numbers, window_table}
use Rattle.analysis.specs.declared.Summary.{Summary}

-- what an analysis says of a block beside its windows
unfoldable pub summary_of : Block → Summary
summary_of b = record {
  n = b.n;
  origin = b.origin;
  bound = bound b;
  number = b.number;
  rounds = round_count b;
  pairs = pair_count b;
  apart = apart_count b;
}

-- "Letters RES1; byte 4 n; 5 origin copied; 6–7 bound; 8–11 block number; 12–13 rounds; 14–15 contending pairs; 16–17
-- pairs apart; 18–27 zero."
unfoldable pub head_of : Summary → List ℕ
head_of s =
    ascii "RES1"
    ++ (s.n ∷ s.origin
    ∷ (bytes 2 s.bound ++ bytes 4 s.number ++ bytes 2 s.rounds ++ bytes 2 s.pairs ++ bytes 2 s.apart ++ replicate 10 0))

-- the same of a block
unfoldable pub result_head : Block → List ℕ
result_head b = head_of (summary_of b)

-- "four 16-bit numbers"
unfoldable pub four_of : ℕ → ℕ → ℕ → ℕ → List ℕ
four_of x y z u = bytes 2 x ++ bytes 2 y ++ bytes 2 z ++ bytes 2 u

-- "per instruction four 16-bit numbers of its EX and CM: EX earliest start, EX latest start, EX latest finish, CM latest
-- finish.": early has the earliest starts, late the latest
unfoldable pub result_times : Block → List ℕ → List ℕ → ℕ → List ℕ
result_times b early late i =
    four_of (start early (node EX i)) (start late (node EX i)) (finish (highest b) late (node EX i)) (finish (highest b) late (node CM i))

-- "Unused entries are zero."
unfoldable pub result_entries : Block → List ℕ
result_entries b =
    let early = earliest b in
    let late = (windows b).late in
    joined 60 (λ i. pick (ltb i b.n) (result_times b early late i) (replicate 8 0))

-- bytes 0 to 507
unfoldable pub result_body : Block → List ℕ
result_body b = result_head b ++ result_entries b

-- "Same check.": the result record of a block
unfoldable pub result_record : Block → List ℕ
result_record b = result_body b ++ bytes 4 (check_of (result_body b))

-- the analysis makes tests 4, 5 and 6: "exactly 512 for a record"
unfoldable pub analyse_tests : Block → List ℕ → List Test
analyse_tests b o = block_tests b ++ (output_test (eqb (length o) 512) ∷ [])

-- the window table too: "at least 30 × n numbers for windows"
unfoldable pub window_tests : Block → List ℕ → List Test
window_tests b o = block_tests b ++ (output_test (leb (window_numbers b) (length o)) ∷ [])

-- what the output of an analysis holds at the end: the result record, or at a refusal what it held
unfoldable pub analysed : Block → List ℕ → List ℕ
analysed b o = pick (accepts (verdict (analyse_tests b o))) (result_record b) o

-- what the output of the window table holds at the end. "Numbers beyond those stay untouched."
unfoldable pub tabled : Block → List ℕ → List ℕ
tabled b o = pick (accepts (verdict (window_tests b o))) (window_table b ++ drop (window_numbers b) o) o
