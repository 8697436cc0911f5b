-- The largest of some numbers, their sum, whether a test holds of one, and those at which it holds: of lists joined, where no
-- element is above m, where the test holds of none or of one, and of a table. Assumes nothing.
use Prim.Native.Nat.{ℕ, zero, suc, ◌+◌, ◌*◌, ◌≤◌, max, ◌<◌}
use mathlib.Core.Path.{◌≡◌, refl, ap}
use mathlib.Core.Bool.{Bool, true, false, ◌||◌, not, false≢true}
use mathlib.Core.List.{List, [], ◌∷◌, ◌++◌, map}
use mathlib.Core.Logic.{inl, inr}
use native.Mathlib.Nat.{mul-suc}
use native.Mathlib.Omega.{arith}
use lib.Dec.{ltb}
use lib.ListN.{length}
use borrow.Author.Tests.{ltb-true, ltb-false}
use Rattle.lists.proofs.Bools.{by_test, or_left, or_right}
use Rattle.lists.specs.Lists.{In, pick, tab, tab_from}
use Rattle.lists.specs.inside.Kept.{kept}
use Rattle.lists.specs.Sums.{largest, sum, any}

-- ---- the largest and the sum
pub largest_append : (xs ys : List ℕ) → largest (xs ++ ys) ≡ max (largest xs) (largest ys)
unfolding largest
largest_append [] ys = omega arith
largest_append (x ∷ xs) ys = rw (largest_append xs ys) (omega arith)

pub sum_append : (xs ys : List ℕ) → sum (xs ++ ys) ≡ sum xs + sum ys
unfolding sum
sum_append [] ys = omega arith
sum_append (x ∷ xs) ys = rw (sum_append xs ys) (omega arith)

pub largest_in : (xs : List ℕ) (x : ℕ) → In x xs → x ≤ largest xs
unfolding largest
largest_in [] x h = absurd h
largest_in (y ∷ ys) x (inl q) = omega arith
largest_in (y ∷ ys) x (inr h) = omega (arith, largest_in ys x h)

module _ (m : ℕ) where
  pub largest_most : (xs : List ℕ) → ((x : ℕ) → In x xs → x ≤ m) → largest xs ≤ m
  unfolding largest
  largest_most [] h = omega arith
  largest_most (x ∷ xs) h = omega (arith, h x (inl refl), largest_most xs (λ y i. h y (inr i)))

  pub sum_most : (xs : List ℕ) → ((x : ℕ) → In x xs → x ≤ m) → sum xs ≤ m * length xs
  unfolding sum
  sum_most [] h = omega arith
  sum_most (x ∷ xs) h = rw mul-suc (omega (arith, h x (inl refl), sum_most xs (λ y i. h y (inr i))))

-- where each value of the one function is at most the other's
pub sum_mono : (f g : ℕ → ℕ) (xs : List ℕ) → ((x : ℕ) → In x xs → f x ≤ g x) → sum (map f xs) ≤ sum (map g xs)
unfolding sum
sum_mono f g [] h = omega arith
sum_mono f g (x ∷ xs) h = omega (arith, h x (inl refl), sum_mono f g xs (λ y i. h y (inr i)))

-- ---- a test
or_assoc : (a b c : Bool) → (a || (b || c)) ≡ (a || b || c)
or_assoc true b c = refl
or_assoc false b c = refl

pick_append : (t : Bool) (x : ℕ) (xs ys : List ℕ) → pick t (x ∷ xs ++ ys) (xs ++ ys) ≡ pick t (x ∷ xs) xs ++ ys
pick_append true x xs ys = refl
pick_append false x xs ys = refl

module _ (p : ℕ → Bool) where
  pub any_append : (xs ys : List ℕ) → any p (xs ++ ys) ≡ (any p xs || any p ys)
  unfolding any
  any_append [] ys = refl
  any_append (x ∷ xs) ys = rw (any_append xs ys) (or_assoc (p x) (any p xs) (any p ys))

  pub kept_append : (xs ys : List ℕ) → kept p (xs ++ ys) ≡ kept p xs ++ kept p ys
  unfolding kept
  kept_append [] ys = refl
  kept_append (x ∷ xs) ys = rw (kept_append xs ys) (pick_append (p x) x (kept p xs) (kept p ys))

  pub kept_length : (x : ℕ) (xs : List ℕ) → length (kept p (x ∷ xs)) ≡ pick (p x) 1 0 + length (kept p xs)
  unfolding kept
  kept_length x xs = by_test (p x) (λ t. rw t (omega arith)) (λ t. rw t (omega arith))

  pub kept_fewer : (xs : List ℕ) → length (kept p xs) ≤ length xs
  unfolding kept
  kept_fewer [] = omega arith
  kept_fewer (x ∷ xs) = by_test (p x) (λ t. rw t (omega (arith, kept_fewer xs))) (λ t. rw t (omega (arith, kept_fewer xs)))

  pub sum_kept : (f : ℕ → ℕ) (xs : List ℕ) → sum (map f (kept p xs)) ≤ sum (map f xs)
  unfolding kept sum
  sum_kept f [] = omega arith
  sum_kept f (x ∷ xs) = by_test (p x) (λ t. rw t (omega (arith, sum_kept f xs))) (λ t. rw t (omega (arith, sum_kept f xs)))

-- ---- a test of a list, and those kept by it
pub none_kept : (p : ℕ → Bool) (xs : List ℕ) → any p xs ≡ false → length (kept p xs) ≡ 0
unfolding any kept
none_kept p [] e = refl
none_kept p (x ∷ xs) e = let q = or_left (p x) (any p xs) e in rw q (none_kept p xs (or_right (p x) (any p xs) e))

pub some_kept : (p : ℕ → Bool) (xs : List ℕ) → any p xs ≡ true → 0 < length (kept p xs)
unfolding any kept
some_kept p [] e = absurd (false≢true e)
some_kept p (x ∷ xs) e = by_test (p x) (λ t. rw t (omega arith)) (λ t. rw t (some_kept p xs (rw t at e)))

pub quiet_kept : (p : ℕ → Bool) (xs : List ℕ) → any p xs ≡ false → kept (λ x. not (p x)) xs ≡ xs
unfolding any kept
quiet_kept p [] e = refl
quiet_kept p (x ∷ xs) e =
    let q = or_left (p x) (any p xs) e in
    rw q (ap (λ (r : List ℕ). x ∷ r) (quiet_kept p xs (or_right (p x) (any p xs) e)))

-- ---- sums over a table
sum_parted_from : (f g h : ℕ → ℕ) (i n : ℕ) → ((k : ℕ) → i ≤ k → k < i + n → f k ≡ g k + h k)
    → sum (tab_from f i n) ≡ sum (tab_from g i n) + sum (tab_from h i n)
unfolding sum tab_from
sum_parted_from f g h i zero e = refl
sum_parted_from f g h i (suc n) e =
    omega (arith, e i (omega arith) (omega arith), sum_parted_from f g h (suc i) n (λ k a l. e k (omega arith) (omega arith)))

pub sum_parted : (f g h : ℕ → ℕ) (n : ℕ) → ((k : ℕ) → k < n → f k ≡ g k + h k) → sum (tab n f) ≡ sum (tab n g) + sum (tab n h)
unfolding tab
sum_parted f g h n e = sum_parted_from f g h 0 n (λ k a l. e k (omega arith))

-- nothing but zeros, and one of the numbers
sum_none_from : (f : ℕ → ℕ) (i n : ℕ) → ((k : ℕ) → i ≤ k → k < i + n → f k ≡ 0) → sum (tab_from f i n) ≡ 0
unfolding sum tab_from
sum_none_from f i zero h = refl
sum_none_from f i (suc n) h =
    omega (arith, h i (omega arith) (omega arith), sum_none_from f (suc i) n (λ k a l. h k (omega arith) (omega arith)))

pub sum_none : (f : ℕ → ℕ) (n : ℕ) → ((k : ℕ) → k < n → f k ≡ 0) → sum (tab n f) ≡ 0
unfolding tab
sum_none f n h = sum_none_from f 0 n (λ k a l. h k (omega arith))

sum_one_from : (f : ℕ → ℕ) (i n k : ℕ) → i ≤ k → k < i + n → f k ≤ sum (tab_from f i n)
unfolding sum tab_from
sum_one_from f i zero k a l = absurd (omega arith)
sum_one_from f i (suc n) k a l =
    by_test (ltb i k)
    (λ t. omega (arith, sum_one_from f (suc i) n k (ltb-true i k t) (omega arith)))
    (λ t. let e : i ≡ k = omega (arith, ltb-false i k t) in rw e (omega arith))

pub sum_one : (f : ℕ → ℕ) (n k : ℕ) → k < n → f k ≤ sum (tab n f)
unfolding tab
sum_one f n k l = sum_one_from f 0 n k (omega arith) (omega arith)
