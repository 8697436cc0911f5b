-- A claim of each element of a list of numbers, and of 0, which stands where there is none: what it says of parts of the
-- list, of lists joined, and after a store. Assumes nothing.
use Prim.Native.Nat.{ℕ, zero, suc, ◌+◌, ◌<◌}
use mathlib.Core.Path.{◌≡◌, refl}
use mathlib.Core.List.{List, [], ◌∷◌, ◌++◌}
use mathlib.Core.Logic.{inl, inr}
use native.Mathlib.Omega.{arith}
use lib.ListN.{length, get_or, take, drop, set, replicate}
use lib.Seq.{get_or-drop}
use Rattle.lists.specs.Lists.{In}

pub get_or_all : {A : Type 0} (d : A) (n i : ℕ) → get_or (replicate n d) i d ≡ d
get_or_all d zero i = refl
get_or_all d (suc n) zero = refl
get_or_all d (suc n) (suc i) = get_or_all d n i

pub get_or_zeros : (n i : ℕ) → get_or (replicate {A = ℕ} n 0) i 0 ≡ 0
get_or_zeros n i = get_or_all 0 n i

-- an element by its index
pub get_or_in : (xs : List ℕ) (k : ℕ) → k < length xs → In (get_or xs k 0) xs
get_or_in [] k h = absurd (omega arith)
get_or_in (x ∷ xs) zero h = inl refl
get_or_in (x ∷ xs) (suc k) h = inr (get_or_in xs k (omega arith))

module _ (P : ℕ → Type 0) where
  abbrev pub All : List ℕ → Type 0
  All l = (k : ℕ) → P (get_or l k 0)

  pub all_append : (xs ys : List ℕ) → All xs → All ys → All (xs ++ ys)
  all_append [] ys hx hy k = hy k
  all_append (x ∷ xs) ys hx hy zero = hx 0
  all_append (x ∷ xs) ys hx hy (suc k) = all_append xs ys (λ i. hx (suc i)) hy k

  pub all_take : (n : ℕ) (l : List ℕ) → P 0 → All l → All (take n l)
  all_take zero l z h k = z
  all_take (suc n) [] z h k = h k
  all_take (suc n) (x ∷ l) z h zero = h 0
  all_take (suc n) (x ∷ l) z h (suc k) = all_take n l z (λ i. h (suc i)) k

  pub all_drop : (n : ℕ) (l : List ℕ) → All l → All (drop n l)
  all_drop n l h k = rw (get_or-drop n l k 0) (h (n + k))

  pub all_set : (l : List ℕ) (i v : ℕ) → All l → P v → All (set l i v)
  all_set [] i v a e k = a k
  all_set (x ∷ l) zero v a e zero = e
  all_set (x ∷ l) zero v a e (suc k) = a (suc k)
  all_set (x ∷ l) (suc i) v a e zero = a 0
  all_set (x ∷ l) (suc i) v a e (suc k) = all_set l i v (λ j. a (suc j)) e k
