-- "How much each promise has to say": what each operation promises of its outcome.
use Rattle.std.specs.Prelude.{◌≡◌, List, ℕ}
use Rattle.record.specs.Refusals.{Answer, meaning, verdict}
use Rattle.record.specs.Promises.{Whole}
use Rattle.record.specs.declared.Block.{Block}
use Rattle.analysis.specs.Result.{analyse_tests, window_tests, analysed, tabled}

-- analysing the block b to an output that held o and then holds o': the answer is the verdict, and the output is the
-- result record or untouched
pub record Analyses (b : Block) (o : List ℕ) (a : Answer) (o' : List ℕ) : Type 0 where
  pub whole : Whole b
  pub answer : meaning a ≡ verdict (analyse_tests b o)
  pub output : o' ≡ analysed b o

-- the same of the window table
pub record WritesWindows (b : Block) (o : List ℕ) (a : Answer) (o' : List ℕ) : Type 0 where
  pub whole : Whole b
  pub answer : meaning a ≡ verdict (window_tests b o)
  pub output : o' ≡ tabled b o
