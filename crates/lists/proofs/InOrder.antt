-- A list built in order, each element from those before it: its length, its elements, and that it keeps its rule as a whole. Assumes nothing.
use Prim.Native.Nat.{ℕ, zero, suc, ◌≤◌, ◌<◌}
use mathlib.Core.Path.{◌≡◌, refl, ap, ◌∙◌, sym}
use mathlib.Core.Logic.{⊎_elim}
use mathlib.Core.List.{List, [], ◌∷◌}
use native.Mathlib.Omega.{arith}
use native.Mathlib.Nat.{not-suc-le-zero, eq-or-lt_of_le, le_of_suc-le-suc}
use lib.ListN.{length, get_or, take, length-append, get_or-append}
use lib.Seq.{get_or_at, get_or-take, take-append-le, take-length}
use Rattle.lists.specs.Lists.{in_order}

module _ {A : Type 0} (rule : List A → ℕ → A) where
  pub length_in_order : (k : ℕ) → length (in_order rule k) ≡ k
  unfolding in_order
  length_in_order zero = refl
  length_in_order (suc k) = omega (arith, length-append (in_order rule k) (rule (in_order rule k) k ∷ []), length_in_order k)

  -- an element is what the rule makes of those before it
  pub get_or_in_order : (d : A) (n k : ℕ) → k < n → get_or (in_order rule n) k d ≡ rule (in_order rule k) k
  unfolding in_order
  get_or_in_order d zero k h = absurd (not-suc-le-zero h)
  get_or_in_order d (suc n) k h =
      ⊎_elim
      (λ q. rw q (get_or_at (in_order rule n) (rule (in_order rule n) n) [] d n (length_in_order n)))
      (λ lt. get_or-append (in_order rule n) (rule (in_order rule n) n ∷ []) d k (rw length_in_order lt) ∙ get_or_in_order d n k lt)
      (eq-or-lt_of_le (le_of_suc-le-suc h))

  -- what stands before v at v's turn stands there in the end
  pub take_in_order : (n k : ℕ) → k ≤ n → take k (in_order rule n) ≡ in_order rule k
  unfolding in_order
  take_in_order zero zero h = refl
  take_in_order zero (suc k) h = absurd (not-suc-le-zero h)
  take_in_order (suc n) k h =
      ⊎_elim
      (λ q. ap (λ (x : ℕ). take x (in_order rule (suc n))) (q ∙ sym (length_in_order (suc n))) ∙ take-length (in_order rule (suc n)) ∙ ap (in_order rule) (sym q))
      (λ lt. take-append-le k (in_order rule n) (rule (in_order rule n) n ∷ []) (rw length_in_order (le_of_suc-le-suc lt))
      ∙ take_in_order n k (le_of_suc-le-suc lt))
      (eq-or-lt_of_le h)

  -- where the rule looks at what is before alone, the finished list keeps it
  pub in_order_keeps : (d : A) → ((s t : List A) (v : ℕ) → ((u : ℕ) → u < v → get_or s u d ≡ get_or t u d) → rule s v ≡ rule t v)
      → (n v : ℕ) → v < n → get_or (in_order rule n) v d ≡ rule (in_order rule n) v
  in_order_keeps d looks n v h =
      get_or_in_order d n v h
      ∙ looks (in_order rule v) (in_order rule n) v
      (λ u l. ap (λ (s : List A). get_or s u d) (sym (take_in_order n v (omega arith))) ∙ get_or-take v (in_order rule n) u d l)
