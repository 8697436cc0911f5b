-- The rows of the instructions, filled one by one. Assumes nothing.
use Prim.Native.Nat.{ℕ, zero, suc, ◌+◌, ◌≤◌, ◌<◌}
use mathlib.Core.Path.{◌≡◌, refl}
use mathlib.Core.List.{List}
use native.Mathlib.Omega.{arith}
use lib.ListN.{length, get_or, set, replicate}
use lib.Seq.{get_or-set_same, get_or-set_other}
use borrow.Author.Count.{below_more}
use Rattle.record.specs.declared.Block.{Block}
use Rattle.model.specs.Nodes.{entry, source}
use Rattle.unpacked.specs.inside.UnpackedBlock.{code}
use Rattle.choices.specs.declared.Row.{Row}
use Rattle.choices.specs.inside.InstructionRows.{no_row, row, InstructionRows}

-- the rows from j on are no instruction's
abbrev pub Blank : List Row → ℕ → Type 0
Blank rows j = (i : ℕ) → j ≤ i → (row rows i).kind ≡ 0

pub blank_none : (r : Row) → r.kind ≡ 0 → (n i : ℕ) → (row (replicate n r) i).kind ≡ 0
blank_none r e zero i = refl
blank_none r e (suc n) zero = e
blank_none r e (suc n) (suc i) = blank_none r e n i

pub blank_more : (rows : List Row) (j : ℕ) (r : Row) → Blank rows j → Blank (set rows j r) (j + 1)
blank_more rows j r B i h = rw (get_or-set_other rows j i r no_row (λ w. omega arith)) (B i (omega arith))

-- the rows of the instructions below j
module _ (b : Block) (l : List ℕ) where
  -- r is the row of instruction i
  pub record RowOf (i : ℕ) (r : Row) : Type 0 where
    pub kind : r.kind ≡ (entry b i).kind
    pub takes : r.latency ≡ get_or l i 0
    pub first : r.first ≡ code (source b (entry b i).reads1 i)
    pub second : r.second ≡ code (source b (entry b i).reads2 i)

  abbrev pub Filled : List Row → ℕ → Type 0
  Filled rows j = (i : ℕ) → i < j → RowOf i (row rows i)

  pub filled_more : (rows : List Row) (j : ℕ) (r : Row) → j < length rows → RowOf j r → Filled rows j → Filled (set rows j r) (j + 1)
  filled_more rows j r n R F =
      below_more _ j
      (λ i h. rw (get_or-set_other rows j i r no_row (λ w. omega arith)) (F i h))
      (rw (get_or-set_same rows j r no_row n) R)

  pub filled_all : (rows : List Row) (j : ℕ) → b.n ≤ j → Filled rows j → InstructionRows b l rows
  filled_all rows j m F =
      record {
        kind = λ i h. (F i (omega arith)).kind;
        takes = λ i h. (F i (omega arith)).takes;
        first = λ i h. (F i (omega arith)).first;
        second = λ i h. (F i (omega arith)).second;
      }
