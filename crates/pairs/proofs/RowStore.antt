-- Rows of pairs: one row put anew, one built from the front by a test, and how many pairs the rows have. Assumes nothing.
use Prim.Native.Nat.{ℕ, zero, suc, ◌+◌, ◌<◌, ◌≤◌}
use mathlib.Core.Path.{◌∙◌, ◌≡◌, ap, refl, sym}
use mathlib.Core.Bool.{Bool, false, true}
use mathlib.Core.List.{List, append-nil}
use native.Mathlib.Omega.{arith}
use native.Mathlib.Nat.{add-zero}
use native.Mathlib.Numerals.{add-one}
use lib.ListN.{get_or, length, set, take}
use lib.Seq.{get_or-set_other, get_or-set_same, take-set-le, take-suc-set}
use borrow.Author.Count.{below_more}
use mir.Val.{bool_byte}
use Rattle.std.proofs.lemmas.List.{get_or_default}
use Rattle.lists.specs.Lists.{numbers_where, pick, tab, tab_from}
use Rattle.lists.specs.Sums.{sum}
use Rattle.lists.proofs.Bools.{by_test}
use Rattle.lists.proofs.NumbersWhere.{numbers_where_more}
use Rattle.pairs.specs.declared.row.Row.{Row}
use Rattle.pairs.specs.inside.PairRows.{no_row, pair_total, row, those_of}

-- a row that is read
pub row_read : (rows : List Row) (j : ℕ) (r : Row) → j < length rows → those_of (get_or rows j r) ≡ row rows j
row_read rows j r h = ap those_of (get_or_default rows j r no_row h)

-- ---- row j put anew
module _ (rows : List Row) (j : ℕ) (r : Row) where
  pub row_same : j < length rows → row (set rows j r) j ≡ those_of r
  row_same h = ap those_of (get_or-set_same rows j r no_row h)

  pub row_other : (i : ℕ) → (i ≡ j → ⊥) → row (set rows j r) i ≡ row rows i
  row_other i off = ap those_of (get_or-set_other rows j i r no_row off)

  -- one row more that f has
  pub rows_more : (f : ℕ → List ℕ) → j < length rows → ((i : ℕ) → i < j → row rows i ≡ f i) → those_of r ≡ f j
      → (i : ℕ) → i < j + 1 → row (set rows j r) i ≡ f i
  rows_more f h done e =
      below_more (λ i. row (set rows j r) i ≡ f i) j (λ i q. row_other i (λ x. omega arith) ∙ done i q) (row_same h ∙ e)

-- a test as a number
pub counted : (t : Bool) → bool_byte t ≡ pick t 1 0
counted true = refl
counted false = refl

pub counted_most : (t : Bool) → bool_byte t ≤ 1
counted_most true = omega arith
counted_most false = omega arith

-- ---- those of a range, stored one after the other: i is stored behind the front in any case, and counted where the test holds
pub numbers_where_store : (p : ℕ → Bool) (l : List ℕ) (a i n : ℕ) → a ≤ i → n < length l → take n l ≡ numbers_where a i p
    → take (n + pick (p i) 1 0) (set l n i) ≡ numbers_where a (i + 1) p
numbers_where_store p l a i n h q e =
    by_test (p i)
    (λ t. rw (t, add-one n, take-suc-set l n i q, e) (sym (numbers_where_more p a i h ∙ rw t refl)))
    (λ t. rw (t, add-zero n, take-set-le n l n i (omega arith), e) (sym (numbers_where_more p a i h ∙ rw t (append-nil _))))

-- ---- how many pairs
sum_from : (f : ℕ → ℕ) (i n : ℕ) → sum (tab_from f i (suc n)) ≡ sum (tab_from f i n) + f (i + n)
unfolding tab_from sum
sum_from f i zero = let e : f i ≡ f (i + 0) = ap f (omega arith) in omega (arith, e)
sum_from f i (suc n) = let e : f (suc i + n) ≡ f (i + suc n) = ap f (omega arith) in omega (arith, sum_from f (suc i) n, e)

pub total_none : (rows : List Row) → pair_total 0 rows ≡ 0
unfolding tab tab_from sum
total_none rows = refl

-- one row more
pub total_more : (rows : List Row) (n : ℕ) → pair_total (n + 1) rows ≡ pair_total n rows + length (row rows n)
unfolding tab
total_more rows n =
    let e : length (row rows (0 + n)) ≡ length (row rows n) = ap (λ (j : ℕ). length (row rows j)) (omega arith) in
    rw add-one (omega (arith, sum_from (λ j. length (row rows j)) 0 n, e))
