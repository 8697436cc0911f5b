-- The first k elements of a list, and one more: their sum, the largest of them, a test of them, those kept. Assumes nothing.
use Prim.Native.Nat.{ℕ, zero, suc, ◌+◌, ◌≤◌, ◌<◌, max}
use mathlib.Core.Path.{◌≡◌, refl}
use mathlib.Core.Bool.{Bool, true, false, ◌||◌}
use mathlib.Core.List.{List, [], ◌∷◌, ◌++◌, map, map-append}
use native.Mathlib.Omega.{arith}
use lib.ListN.{length, get_or, take}
use lib.Seq.{take-length}
use Rattle.lists.specs.Lists.{pick}
use Rattle.lists.specs.inside.Kept.{kept}
use Rattle.lists.specs.Sums.{largest, sum, any}
use Rattle.lists.proofs.JoinedPieces.{take_snoc}
use Rattle.lists.proofs.Sums.{largest_append, sum_append, any_append, kept_append}

-- they are at most k
pub take_most : {A : Type 0} (k : ℕ) (xs : List A) → length (take k xs) ≤ k
take_most zero xs = omega arith
take_most (suc k) [] = omega arith
take_most (suc k) (x ∷ xs) = omega (arith, take_most k xs)

-- all of them
pub take_end : {A : Type 0} (xs : List A) (k : ℕ) → length xs ≡ k → take k xs ≡ xs
take_end xs k e = rw (← e) (take-length xs)

module _ (xs : List ℕ) (k : ℕ) (h : k < length xs) where
  pub sum_more : sum (take (k + 1) xs) ≡ sum (take k xs) + get_or xs k 0
  unfolding sum
  sum_more = rw (take_snoc xs k 0 h, sum_append (take k xs) (get_or xs k 0 ∷ [])) (omega arith)

  pub sum_map_more : (f : ℕ → ℕ) → sum (map f (take (k + 1) xs)) ≡ sum (map f (take k xs)) + f (get_or xs k 0)
  unfolding sum
  sum_map_more f =
      rw (take_snoc xs k 0 h, map-append f (take k xs) (get_or xs k 0 ∷ []), sum_append (map f (take k xs)) (f (get_or xs k 0) ∷ []))
      (omega arith)

  pub largest_more : (f : ℕ → ℕ) → largest (map f (take (k + 1) xs)) ≡ max (largest (map f (take k xs))) (f (get_or xs k 0))
  unfolding largest
  largest_more f =
      rw (take_snoc xs k 0 h, map-append f (take k xs) (get_or xs k 0 ∷ []), largest_append (map f (take k xs)) (f (get_or xs k 0) ∷ []))
      (omega arith)

  pub any_more : (p : ℕ → Bool) → any p (take (k + 1) xs) ≡ (any p (take k xs) || p (get_or xs k 0))
  unfolding any
  any_more p = rw (take_snoc xs k 0 h, any_append p (take k xs) (get_or xs k 0 ∷ [])) (last (any p (take k xs)) (p (get_or xs k 0)))
    where
      last : (s t : Bool) → (s || (t || false)) ≡ (s || t)
      last true t = refl
      last false true = refl
      last false false = refl

  pub kept_more : (p : ℕ → Bool) → kept p (take (k + 1) xs) ≡ kept p (take k xs) ++ pick (p (get_or xs k 0)) (get_or xs k 0 ∷ []) []
  unfolding kept
  kept_more p = rw (take_snoc xs k 0 h, kept_append p (take k xs) (get_or xs k 0 ∷ [])) refl
