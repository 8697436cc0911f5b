-- What is in a list: in lists joined, in a list all of whose elements keep a rule, and by a test of its elements. Assumes nothing.
use Prim.Native.Nat.{ℕ}
use mathlib.Core.Path.{◌≡◌, refl, sym, ap, subst, ◌∙◌}
use mathlib.Core.Bool.{Bool, true, false≢true}
use mathlib.Core.List.{List, [], ◌∷◌, ◌++◌, map}
use mathlib.Core.Logic.{◌⊎◌, inl, inr}
use Rattle.lists.specs.Lists.{In, Every}
use Rattle.lists.specs.Sums.{any, all}
use Rattle.lists.proofs.Bools.{or_cases, or_first, or_second, and_left, and_right, and_both}

-- ---- joined and mapped
pub in_split : {A : Type 0} (x : A) (xs ys : List A) → In x (xs ++ ys) → In x xs ⊎ In x ys
in_split x [] ys h = inr h
in_split x (z ∷ xs) ys (inl e) = inl (inl e)
in_split {A} x (z ∷ xs) ys (inr h) = either_side (in_split x xs ys h)
  where
    either_side : In x xs ⊎ In x ys → In x (z ∷ xs) ⊎ In x ys
    either_side (inl k) = inl (inr k)
    either_side (inr k) = inr k

pub in_left : {A : Type 0} (x : A) (xs ys : List A) → In x xs → In x (xs ++ ys)
in_left x [] ys h = absurd h
in_left x (z ∷ xs) ys (inl e) = inl e
in_left x (z ∷ xs) ys (inr h) = inr (in_left x xs ys h)

pub in_right : {A : Type 0} (x : A) (xs ys : List A) → In x ys → In x (xs ++ ys)
in_right x [] ys h = h
in_right x (z ∷ xs) ys h = inr (in_right x xs ys h)

pub in_map : {A B : Type 0} (f : A → B) (y : B) (xs : List A) → In y (map f xs) → (x : A) × In x xs × (y ≡ f x)
in_map f y [] h = absurd h
in_map f y (x ∷ xs) (inl e) = (x, inl refl, e)
in_map f y (x ∷ xs) (inr h) = let r = in_map f y xs h in (r.0, inr r.1, r.2)

pub map_in : {A B : Type 0} (f : A → B) (x : A) (xs : List A) → In x xs → In (f x) (map f xs)
map_in f x [] h = absurd h
map_in f x (z ∷ xs) (inl e) = inl (ap f e)
map_in f x (z ∷ xs) (inr h) = inr (map_in f x xs h)

-- functions that agree on the elements
pub map_ext : {A B : Type 0} (f g : A → B) (xs : List A) → ((x : A) → In x xs → f x ≡ g x) → map f xs ≡ map g xs
map_ext f g [] h = refl
map_ext f g (x ∷ xs) h = rw (h x (inl refl), map_ext f g xs (λ y i. h y (inr i))) refl

-- ---- P of each element of a list: p ▸ q ▸ .. ▸ tt
infixr 20 ◌▸◌
pub ◌▸◌ : {P Q : Type 0} → P → Q → P × Q
p ▸ q = (p, q)

pub every : {A : Type 0} (P : A → Type 0) (xs : List A) → Every P xs → (x : A) → In x xs → P x
every P [] a x h = absurd h
every P (z ∷ xs) a x (inl e) = subst P (sym e) a.0
every P (z ∷ xs) a x (inr h) = every P xs a.1 x h

-- ---- a test of the elements
module _ (p : ℕ → Bool) where
  pub any_find : (xs : List ℕ) → any p xs ≡ true → (x : ℕ) × In x xs × (p x ≡ true)
  unfolding any
  any_find [] e = absurd (false≢true e)
  any_find (x ∷ xs) e = first_or_rest (or_cases (p x) (any p xs) e) (any_find xs)
    where
      first_or_rest : (p x ≡ true) ⊎ (any p xs ≡ true) → (any p xs ≡ true → (y : ℕ) × In y xs × (p y ≡ true)) → (y : ℕ) × In y (x ∷ xs) × (p y ≡ true)
      first_or_rest (inl h) ih = (x, inl refl, h)
      first_or_rest (inr h) ih = let r = ih h in (r.0, inr r.1, r.2)

  pub any_in : (xs : List ℕ) (x : ℕ) → In x xs → p x ≡ true → any p xs ≡ true
  unfolding any
  any_in [] x i h = absurd i
  any_in (y ∷ ys) x (inl e) h = or_first (p y) (any p ys) (ap p (sym e) ∙ h)
  any_in (y ∷ ys) x (inr i) h = or_second (p y) (any p ys) (any_in ys x i h)

  -- tests that agree on the elements
  pub any_ext : (q : ℕ → Bool) (xs : List ℕ) → ((x : ℕ) → In x xs → p x ≡ q x) → any p xs ≡ any q xs
  unfolding any
  any_ext q [] h = refl
  any_ext q (x ∷ xs) h = rw (h x (inl refl), any_ext q xs (λ y i. h y (inr i))) refl

  -- a test that holds of all
  pub all_each : (xs : List ℕ) → all p xs ≡ true → (x : ℕ) → In x xs → p x ≡ true
  unfolding all
  all_each [] e x h = absurd h
  all_each (y ∷ ys) e x (inl q) = ap p q ∙ and_left (p y) (all p ys) e
  all_each (y ∷ ys) e x (inr h) = all_each ys (and_right (p y) (all p ys) e) x h

  pub each_all : (xs : List ℕ) → ((x : ℕ) → In x xs → p x ≡ true) → all p xs ≡ true
  unfolding all
  each_all [] h = refl
  each_all (y ∷ ys) h = and_both (p y) (all p ys) (h y (inl refl)) (each_all ys (λ x i. h x (inr i)))
