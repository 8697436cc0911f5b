-- Pieces of one width joined, by index; and a buffer filled in order, piece by piece. Assumes nothing.
use mathlib.Core.Path.{◌≡◌, refl, sym, ◌∙◌}
use mathlib.Core.List.{List, [], ◌∷◌, ◌++◌, append-nil, append_assoc}
use Prim.Native.Nat.{ℕ, zero, suc, ◌+◌, ◌*◌, ◌≤◌, ◌<◌}
use native.Mathlib.Nat.{add-zero, add_assoc, mul-zero, mul-suc, mul-le-mul_left}
use native.Mathlib.Numerals.{add-one}
use native.Mathlib.Omega.{arith}
use lib.ListN.{length, get_or, take, drop, set, take-append-drop, length-append, get_or-append}
use lib.Seq.{get_or-append-add, take_at, drop_at, drop-drop, drop-cons, take-suc, set_at, append_snoc, length-take-le}
use lib.Dec.{ltb}
use borrow.Author.Tests.{ltb-true, ltb-false}
use Rattle.lists.specs.Lists.{joined, put}
use Rattle.lists.proofs.Bools.{by_test}

module _ {A : Type 0} (w : ℕ) (f : ℕ → List A) (wide : (i : ℕ) → length (f i) ≡ w) where
  pub length_joined : (n : ℕ) → length (joined n f) ≡ w * n
  unfolding joined
  length_joined zero = sym (mul-zero w)
  length_joined (suc n) = rw (length-append, length_joined n, wide n, mul-suc) refl

  -- element k of piece i
  pub get_or_joined : (d : A) (n i k : ℕ) → i < n → k < w → get_or (joined n f) (w * i + k) d ≡ get_or (f i) k d
  unfolding joined
  get_or_joined d zero i k h q = absurd (omega arith)
  get_or_joined d (suc n) i k h q =
      by_test (ltb i n)
      (λ e.
      let l : i < n = ltb-true i n e in
      let m : w * i + w ≤ w * n = rw (← mul-suc) (mul-le-mul_left w l) in
      get_or-append (joined n f) (f n) d (w * i + k) (omega (arith, length_joined n)) ∙ get_or_joined d n i k l q)
      (λ e.
      let l : i ≡ n = omega (arith, ltb-false i n e) in
      rw (l, ← length_joined n) (get_or-append-add (joined n f) (f n) k d))

pub joined_ext : {A : Type 0} (f g : ℕ → List A) (n : ℕ) → ((i : ℕ) → i < n → f i ≡ g i) → joined n f ≡ joined n g
unfolding joined
joined_ext f g zero h = refl
joined_ext f g (suc n) h = rw (joined_ext f g n (λ i l. h i (omega arith)), h n (omega arith)) refl

-- a buffer whose front is xs, and ys put next
pub put_next : {A : Type 0} (xs ys o : List A) (i : ℕ) → length xs ≡ i → put (xs ++ drop i o) i ys ≡ xs ++ ys ++ drop (i + length ys) o
put_next xs ys o i e =
    let a : take i (xs ++ drop i o) ≡ xs = take_at xs (drop i o) i e in
    let b : drop (i + length ys) (xs ++ drop i o) ≡ drop (i + length ys) o
    = sym (drop-drop (length ys) i (xs ++ drop i o)) ∙ rw (drop_at xs (drop i o) i e) (drop-drop (length ys) i o) in
    rw (a, b) refl

-- two parts put one behind the other
pub put_two : {A : Type 0} (xs ys zs o : List A) (i : ℕ) → length xs ≡ i
    → put (put (xs ++ drop i o) i ys) (i + length ys) zs ≡ put (xs ++ drop i o) i (ys ++ zs)
put_two xs ys zs o i e =
    let n : length (xs ++ ys) ≡ i + length ys = length-append xs ys ∙ rw e refl in
    let m : i + length ys + length zs ≡ i + length (ys ++ zs) = omega (arith, length-append ys zs) in
    rw (put_next xs ys o i e)
    (put_next (xs ++ ys) zs o (i + length ys) n ∙ rw (append_assoc xs ys zs, m) (sym (put_next xs (ys ++ zs) o i e)))

-- one element more of the front
pub take_snoc : {A : Type 0} (xs : List A) (k : ℕ) (d : A) → k < length xs → take (k + 1) xs ≡ take k xs ++ (get_or xs k d ∷ [])
take_snoc xs k d h = rw add-one (take-suc xs k d h)

-- a buffer whose first k elements are copied from xs, and one more
pub copy_more : {A : Type 0} (xs o : List A) (k : ℕ) (d : A) → k < length xs → k < length o
    → set (take k xs ++ drop k o) k (get_or xs k d) ≡ take (k + 1) xs ++ drop (k + 1) o
copy_more xs o k d h g =
    rw (
      add-one,
      drop-cons o k d g,
      set_at (take k xs) (get_or o k d) (drop (suc k) o) (get_or xs k d) k (length-take-le k xs (omega arith)),
      take-suc xs k d h,
    )
    (sym (append_snoc (take k xs) (get_or xs k d) (drop (suc k) o)))

-- ---- a buffer in which pieces of one width are put one after the other

-- o with the first i pieces in place, the first of them at place a
abbrev pub pieces_in : {A : Type 0} → ℕ → ℕ → (ℕ → List A) → List A → ℕ → List A
pieces_in w a f o i = take a o ++ joined i f ++ drop (a + w * i) o

module _ {A : Type 0} (w a : ℕ) (f : ℕ → List A) (o : List A) where
  pub pieces_none : o ≡ pieces_in w a f o 0
  unfolding joined
  pieces_none = rw (mul-zero w, add-zero a, append-nil) (sym (take-append-drop a o))

  module _ (wide : (i : ℕ) → length (f i) ≡ w) where
    -- one piece more, put at its place p
    pub pieces_more : (i p : ℕ) → p ≡ a + w * i → a ≤ length o → put (pieces_in w a f o i) p (f i) ≡ pieces_in w a f o (i + 1)
    unfolding joined
    pieces_more i p e l =
        let n : length (take a o ++ joined i f) ≡ a + w * i
        = length-append (take a o) (joined i f) ∙ rw (length-take-le a o l, length_joined w f wide i) refl in
        let m : a + w * i + w ≡ a + w * suc i = rw mul-suc (add_assoc a (w * i) w) in
        rw e
        (put_next (take a o ++ joined i f) (f i) o (a + w * i) n
        ∙ rw (wide i, m, add-one, append_assoc (take a o) (joined i f) (f i)) refl)

    pub pieces_all : (n : ℕ) → pieces_in w a f o n ≡ put o a (joined n f)
    pieces_all n = rw (length_joined w f wide n) refl

-- a part of a list, from a on and k long, copied over
pub part_put : {A : Type 0} (a k : ℕ) (o xs ys : List A) → ys ≡ xs → k ≡ length xs → take a o ++ (ys ++ drop k (drop a o)) ≡ put o a xs
part_put a k o xs ys e h = rw (e, h, drop-drop (length xs) a o) (sym (append_assoc (take a o) xs _))
