-- What each step of the code does to the rows of pairs and to the table of chains. Only promises of inside functions use these
-- words. An accented name is what a list is after the step.
use Rattle.std.specs.Prelude.{ℕ, ◌+◌, ◌-◌, ◌<◌, ◌≤◌, max, ◌≡◌, Bool, false, not, ◌&&◌, ◌||◌, List, [], map, length, get_or, eqb}
use Rattle.lists.specs.Lists.{pick, numbers_where, least}
use Rattle.lists.specs.Sums.{largest, any}
use Rattle.lists.specs.inside.Kept.{kept}
use Rattle.record.specs.declared.Block.{Block}
use Rattle.model.specs.Paths.{has, contending}
use Rattle.unpacked.specs.inside.UnpackedBlock.{kind_of, high_of, Unpacked}
use Rattle.unpacked.specs.declared.Instruction.{Instruction}
use Rattle.unpacked.specs.declared.unpacked_block.UnpackedBlock.{UnpackedBlock}
use Rattle.pairs.specs.declared.row.Row.{Row}
use Rattle.pairs.specs.inside.PairRows.{row, Rows, apart_ex, chain_at, ChainRows}

-- ---- the table of chains

-- row 0 has none
pub record NoneFirst (a : List (List Bool)) : Type 0 where
  pub none : (k : ℕ) → k < 64 → chain_at a 0 k ≡ false

-- a row that has what two others have, and columns x and y
pub record JoinedRows (x y : ℕ) (first second row : List Bool) : Type 0 where
  pub joined : (k : ℕ) → k < 64 → get_or row k false ≡ (get_or first k false || get_or second k false || eqb k x || eqb k y)

-- row j + 1 is rows x and y joined, and x and y themselves; the rows before it are as they were
pub record ChainRow (x y j : ℕ) (a a' : List (List Bool)) : Type 0 where
  pub kept : (i : ℕ) → i < j + 1 → get_or a' i [] ≡ get_or a i []
  pub joined : (k : ℕ) → k < 64 → chain_at a' (j + 1) k ≡ (chain_at a x k || chain_at a y k || eqb k x || eqb k y)

-- the chains of the block that was unpacked
pub record ChainsFilled (v : UnpackedBlock) (a : List (List Bool)) : Type 0 where
  pub rows : (b : Block) → Unpacked b v.shape v.instructions → ChainRows b a

-- ---- contenders

-- the instructions of j's kind that stand less than w before j and from which no chain leads to it
unfoldable pub nearby : ℕ → List Instruction → List (List Bool) → ℕ → List ℕ
nearby w u a j = numbers_where (j + 1 - w) j (λ i. eqb (kind_of u i) (kind_of u j) && not (chain_at a (j + 1) (i + 1)))

-- the rows of the contending pairs of the block that was unpacked
pub record ContenderRows (v : UnpackedBlock) (rows : List Row) : Type 0 where
  pub contend : (b : Block) → Unpacked b v.shape v.instructions → Rows b.n (has (contending b)) rows

-- ---- later ones

-- each number of a row is raised to x
pub record Raised (x : ℕ) (row most most' : List ℕ) : Type 0 where
  pub long : length most' ≡ 60
  pub each : (i : ℕ) → get_or most' i 0 ≡ max (get_or most i 0) (pick (any (eqb i) row) x 0)

-- for each instruction the largest highest latency of the later ones, 0 where there are none
pub record LaterOnes (n : ℕ) (u : List Instruction) (rows : List Row) (most : List ℕ) : Type 0 where
  pub each : (p : ℕ → ℕ → Bool) → Rows n p rows → (i : ℕ) → i < n
      → get_or most i 0 ≡ largest (map (high_of u) (numbers_where (i + 1) n (λ j. p j i)))

-- ---- pairs apart

-- the first instruction below n whose row has one that is apart from it, or n
unfoldable pub first_apart : ℕ → List Instruction → List ℕ → List ℕ → List Row → ℕ
first_apart n u early late rows = least 0 n (λ j. any (apart_ex u early late j) (row rows j))

-- those of a row that are not apart from its instruction
abbrev pub stays : List Instruction → List ℕ → List ℕ → ℕ → List ℕ → List ℕ
stays u early late j = kept (λ i. not (apart_ex u early late j i))

-- the rows from `from` on and below n are without those that are apart from their instruction, the others as they were
pub record RowsKept (from n : ℕ) (u : List Instruction) (early late : List ℕ) (rows rows' : List Row) : Type 0 where
  pub after : (j : ℕ) → j < n → from ≤ j → row rows' j ≡ stays u early late j (row rows j)
  pub before : (j : ℕ) → j < from → row rows' j ≡ row rows j
