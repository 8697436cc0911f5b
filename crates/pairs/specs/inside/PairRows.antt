-- The pairs as the code has them: for each instruction a row of those before it, in order. Only promises of inside functions use
-- these words. That the rows have the model's pairs is in crates/rounds/proofs/RowsAfterRound.
use native.Mathlib.Omega.{arith}
use Rattle.std.specs.Prelude.{ℕ, ◌+◌, ◌<◌, ◌≡◌, Bool, false, ◌||◌, List, [], length, get_or, take, leb}
use Rattle.lists.specs.Lists.{numbers_where, tab}
use Rattle.lists.specs.Sums.{sum}
use Rattle.record.specs.declared.Block.{Block}
use Rattle.model.specs.Nodes.{EX, node}
use Rattle.model.specs.Paths.{has}
use Rattle.model.specs.Cycles.{start}
use Rattle.model.specs.inside.RegisterChains.{chains}
use Rattle.unpacked.specs.declared.Instruction.{Instruction}
use Rattle.unpacked.specs.inside.UnpackedBlock.{high_of}
use Rattle.pairs.specs.declared.row.Row.{Row}

-- those of a row's numbers that count
abbrev pub those_of : Row → List ℕ
those_of r = take r.len r.numbers

-- what stands for a row beyond the list
abbrev pub no_row : Row
no_row = record { numbers = []; len = 0; few = omega arith; inside = λ k. omega arith }

-- the row of instruction j
abbrev pub row : List Row → ℕ → List ℕ
row rows j = those_of (get_or rows j no_row)

-- how many pairs the first n rows have
abbrev pub pair_total : ℕ → List Row → ℕ
pair_total n rows = sum (tab n (λ j. length (row rows j)))

-- each row below n has those before its instruction at which p holds
pub record Rows (n : ℕ) (p : ℕ → ℕ → Bool) (rows : List Row) : Type 0 where
  pub listed : (j : ℕ) → j < n → row rows j ≡ numbers_where 0 j (p j)

-- p holds of i and j if it does of j and i
pub record Even (n : ℕ) (p : ℕ → ℕ → Bool) : Type 0 where
  pub even : (i j : ℕ) → i < n → j < n → p i j ≡ p j i

-- the finish of EX(i) under the highest latencies, u being the instructions
unfoldable pub finish_ex : List Instruction → List ℕ → ℕ → ℕ
finish_ex u s i = start s (node EX i) + high_of u i

-- whether i and j are apart
unfoldable pub apart_ex : List Instruction → List ℕ → List ℕ → ℕ → ℕ → Bool
apart_ex u early late i j =
    leb (finish_ex u late i) (start early (node EX j)) || leb (finish_ex u late j) (start early (node EX i))

-- what a table of chains has in row x, column k
abbrev pub chain_at : List (List Bool) → ℕ → ℕ → Bool
chain_at a x k = get_or (get_or a x []) k false

-- a has in row j + 1, column i + 1, whether a chain of registers leads from i to j
pub record ChainRows (b : Block) (a : List (List Bool)) : Type 0 where
  pub at : (i j : ℕ) → i < b.n → j < b.n → chain_at a (j + 1) (i + 1) ≡ has (chains b) j i
