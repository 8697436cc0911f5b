-- Sets of pairs: what a set has, and how many. Assumes nothing.
use Prim.Native.Nat.{ℕ, ◌+◌, ◌<◌, ◌≤◌}
use mathlib.Core.Path.{◌≡◌, refl, ap, sym, ◌∙◌}
use mathlib.Core.Bool.{Bool, false, true, false≢true}
use mathlib.Core.List.{List, [], ◌∷◌}
use native.Mathlib.Omega.{arith}
use lib.ListN.{length, get_or, get_or-eq_default}
use Rattle.lists.specs.Lists.{In, pick, tab, numbers_where}
use Rattle.lists.proofs.Bools.{by_test}
use Rattle.lists.proofs.TableByIndex.{get_or_tab, length_tab}
use Rattle.lists.proofs.NumbersWhere.{numbers_where_parted, in_numbers_where}
use Rattle.lists.proofs.Sums.{sum_parted, sum_one}
use Rattle.model.specs.Paths.{has, pairs, count}
use lib.Dec.{ltb}
use borrow.Author.Tests.{ltb-true, ltb-false}

pub has_pairs : (n : ℕ) (p : ℕ → ℕ → Bool) (i j : ℕ) → i < n → j < n → has (pairs n p) i j ≡ p i j
unfolding pairs
has_pairs n p i j hi hj = rw (get_or_tab n (λ k. tab n (p k)) i _ hi) (get_or_tab n (p i) j false hj)

-- a set has no pair from n on
pub has_below : (n : ℕ) (p : ℕ → ℕ → Bool) (i j : ℕ) → has (pairs n p) i j ≡ true → (i < n) × (j < n)
unfolding pairs
has_below n p i j t = by_test (ltb i n) (λ e. in_row (ltb-true i n e)) (λ e. absurd (none_after (ltb-false i n e)))
  where
    none_after : n ≤ i → ⊥
    none_after l =
        let r : get_or (tab n (λ k. tab n (p k))) i [] ≡ []
        = get_or-eq_default (tab n (λ k. tab n (p k))) [] (omega (arith, length_tab n (λ k. tab n (p k)))) in
        false≢true (sym (ap (λ (x : List Bool). get_or x j false) r) ∙ t)

    in_row : i < n → (i < n) × (j < n)
    in_row l =
        let r = get_or_tab n (λ k. tab n (p k)) i [] l in
        by_test (ltb j n) (λ e. (l, ltb-true j n e))
        (λ e.
        let z : get_or (tab n (p i)) j false ≡ false = get_or-eq_default (tab n (p i)) false (omega (arith, length_tab n (p i), ltb-false j n e)) in
        absurd (false≢true (sym z ∙ sym (ap (λ (x : List Bool). get_or x j false) r) ∙ t)))

pub count_parted : (n : ℕ) (p q r : ℕ → ℕ → Bool) → ((i j : ℕ) → i < j → j < n → pick (p i j) 1 0 ≡ pick (q i j) 1 0 + pick (r i j) 1 0)
    → count n p ≡ count n q + count n r
unfolding count
count_parted n p q r h =
    sum_parted _ _ _ n (λ j l. numbers_where_parted (λ i. p i j) (λ i. q i j) (λ i. r i j) 0 j (omega arith) (λ i a m. h i j m l))

pub count_none : (n : ℕ) → count n (λ i j. false) ≡ 0
count_none n = let e = count_parted n (λ i j. false) (λ i j. false) (λ i j. false) (λ i j l m. refl) in omega arith

pub count_ext : (n : ℕ) (p q : ℕ → ℕ → Bool) → ((i j : ℕ) → i < j → j < n → p i j ≡ q i j) → count n p ≡ count n q
count_ext n p q h =
    let e = count_parted n p q (λ i j. false) (λ i j l m. let s = ap (λ (t : Bool). pick {A = ℕ} t 1 0) (h i j l m) in omega arith) in
    let z = count_none n in
    omega arith

some_length : (x : ℕ) (xs : List ℕ) → In x xs → 0 < length xs
some_length x [] i = absurd i
some_length x (y ∷ xs) i = omega arith

-- of what is not counted there is none
pub count_zero : (n : ℕ) (p : ℕ → ℕ → Bool) → count n p ≡ 0 → (i j : ℕ) → i < j → j < n → p i j ≡ false
unfolding count
count_zero n p e i j h l =
    by_test (p i j)
    (λ t.
    let some = some_length i (numbers_where 0 j (λ x. p x j)) (in_numbers_where (λ x. p x j) 0 j i (omega arith) h t) in
    absurd (omega (arith, some, sum_one (λ y. length (numbers_where 0 y (λ x. p x y))) n j l)))
    (λ f. f)
