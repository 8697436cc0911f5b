-- Those numbers of a range at which a test holds: of a range in two parts, of an empty one and of one with a number more; what
-- is among them; how many they are; by tests that agree, by two tests joined, by a test that holds of fewer. Assumes nothing.
use Prim.Native.Nat.{ℕ, zero, suc, ◌+◌, ◌-◌, ◌≤◌, ◌<◌}
use mathlib.Core.Path.{◌≡◌, refl, sym, ap, ◌∙◌}
use mathlib.Core.Bool.{Bool, true, false, ◌&&◌, and-false}
use mathlib.Core.List.{List, [], ◌∷◌, ◌++◌, map, append-nil}
use mathlib.Core.Logic.{inl, inr}
use native.Mathlib.Nat.{add-zero, zero-add, suc-add}
use native.Mathlib.Omega.{arith}
use lib.Dec.{ltb, eqb}
use lib.ListN.{length, length-append}
use borrow.Author.Tests.{ltb-true, ltb-false, lt-ltb, eqb-true, eq-eqb}
use Rattle.lists.specs.Lists.{In, pick, numbers_where, numbers_where_from}
use Rattle.lists.specs.inside.Kept.{kept}
use Rattle.lists.specs.Sums.{any, largest, sum}
use Rattle.lists.proofs.Bools.{by_test, and_left, and_right, and_both, same_test}
use Rattle.lists.proofs.Members.{any_find, any_in, in_map, map_in}
use Rattle.lists.proofs.Sums.{kept_fewer, sum_kept, largest_in, largest_most}

pick_append : (t : Bool) (i : ℕ) (xs ys zs : List ℕ) → xs ≡ ys ++ zs → pick t (i ∷ xs) xs ≡ pick t (i ∷ ys) ys ++ zs
pick_append true i xs ys zs e = ap (λ ws. i ∷ ws) e
pick_append false i xs ys zs e = e

in_pick : (t : Bool) (k i : ℕ) (xs : List ℕ) → In k xs → In k (pick t (i ∷ xs) xs)
in_pick true k i xs h = inr h
in_pick false k i xs h = h

length_pick : (t : Bool) (i : ℕ) (xs : List ℕ) → length (pick t (i ∷ xs) xs) ≡ pick t 1 0 + length xs
length_pick true i xs = omega arith
length_pick false i xs = omega arith

module _ (p : ℕ → Bool) where
  -- ---- a range in parts
  split_from : (i m n : ℕ) → numbers_where_from p i (m + n) ≡ numbers_where_from p i m ++ numbers_where_from p (i + m) n
  unfolding numbers_where_from
  split_from i zero n = rw (add-zero, zero-add) refl
  split_from i (suc m) n =
      let e : i + suc m ≡ suc i + m = omega arith in
      rw (suc-add, e)
      (pick_append (p i) i (numbers_where_from p (suc i) (m + n)) (numbers_where_from p (suc i) m) _ (split_from (suc i) m n))

  -- a range in two parts
  pub numbers_where_split : (a m b : ℕ) → a ≤ m → m ≤ b → numbers_where a b p ≡ numbers_where a m p ++ numbers_where m b p
  unfolding numbers_where
  numbers_where_split a m b l g =
      let e : b - a ≡ (m - a) + (b - m) = omega arith in
      let s : a + (m - a) ≡ m = omega arith in
      rw e (split_from a (m - a) (b - m) ∙ ap (λ k. numbers_where_from p a (m - a) ++ numbers_where_from p k (b - m)) s)

  -- a range ends as another does if it is as long
  pub numbers_where_end : (a i j : ℕ) → i - a ≡ j - a → numbers_where a i p ≡ numbers_where a j p
  unfolding numbers_where
  numbers_where_end a i j e = rw e refl

  -- an empty range
  pub numbers_where_none : (a : ℕ) → numbers_where a a p ≡ []
  unfolding numbers_where numbers_where_from
  numbers_where_none a = let e : a - a ≡ 0 = omega arith in rw e refl

  one_number : (b : ℕ) → numbers_where b (b + 1) p ≡ pick (p b) (b ∷ []) []
  unfolding numbers_where numbers_where_from
  one_number b = let e : b + 1 - b ≡ 1 = omega arith in rw e refl

  -- one number more
  pub numbers_where_more : (a b : ℕ) → a ≤ b → numbers_where a (b + 1) p ≡ numbers_where a b p ++ pick (p b) (b ∷ []) []
  numbers_where_more a b l =
      numbers_where_split a b (b + 1) l (omega arith) ∙ ap (λ (xs : List ℕ). numbers_where a b p ++ xs) (one_number b)

  quiet_from : (i n : ℕ) → ((k : ℕ) → i ≤ k → k < i + n → p k ≡ false) → numbers_where_from p i n ≡ []
  unfolding numbers_where_from
  quiet_from i zero h = refl
  quiet_from i (suc n) h = rw (h i (omega arith) (omega arith)) (quiet_from (suc i) n (λ k a l. h k (omega arith) (omega arith)))

  -- a range without any
  pub numbers_where_quiet : (a b : ℕ) → ((k : ℕ) → a ≤ k → k < b → p k ≡ false) → numbers_where a b p ≡ []
  unfolding numbers_where
  numbers_where_quiet a b h = quiet_from a (b - a) (λ k x y. h k x (omega arith))

  -- a front without any
  pub numbers_where_front : (a m b : ℕ) → a ≤ m → m ≤ b → ((k : ℕ) → a ≤ k → k < m → p k ≡ false)
      → numbers_where a b p ≡ numbers_where m b p
  numbers_where_front a m b l g h = numbers_where_split a m b l g ∙ rw (numbers_where_quiet a m h) refl

  -- an end without any
  pub numbers_where_back : (a m b : ℕ) → a ≤ m → m ≤ b → ((k : ℕ) → m ≤ k → k < b → p k ≡ false)
      → numbers_where a b p ≡ numbers_where a m p
  numbers_where_back a m b l g h = numbers_where_split a m b l g ∙ rw (numbers_where_quiet m b h) (append-nil (numbers_where a m p))

  -- ---- what is among them
  numbers_where_in_from : (i n k : ℕ) → In k (numbers_where_from p i n) → (i ≤ k) × (k < i + n) × (p k ≡ true)
  unfolding numbers_where_from
  numbers_where_in_from i zero k h = absurd h
  numbers_where_in_from i (suc n) k h = by_front (p i) refl h (numbers_where_in_from (suc i) n k)
    where
      by_front : (t : Bool) → p i ≡ t → In k (pick t (i ∷ numbers_where_from p (suc i) n) (numbers_where_from p (suc i) n))
          → (In k (numbers_where_from p (suc i) n) → (suc i ≤ k) × (k < suc i + n) × (p k ≡ true)) → (i ≤ k) × (k < i + suc n) × (p k ≡ true)
      by_front true e (inl q) ih = (omega arith, omega arith, ap p q ∙ e)
      by_front true e (inr q) ih = let r = ih q in (omega (arith, r.0), omega (arith, r.1), r.2)
      by_front false e q ih = let r = ih q in (omega (arith, r.0), omega (arith, r.1), r.2)

  -- a number that is among them is in the range, and the test holds there
  pub numbers_where_in : (a b k : ℕ) → In k (numbers_where a b p) → (a ≤ k) × (k < b) × (p k ≡ true)
  unfolding numbers_where
  numbers_where_in a b k h = let r = numbers_where_in_from a (b - a) k h in (r.0, omega (arith, r.0, r.1), r.2)

  in_from : (i n k : ℕ) → i ≤ k → k < i + n → p k ≡ true → In k (numbers_where_from p i n)
  unfolding numbers_where_from
  in_from i zero k l h t = absurd (omega arith)
  in_from i (suc n) k l h t =
      by_test (ltb i k)
      (λ e. in_pick (p i) k i (numbers_where_from p (suc i) n) (in_from (suc i) n k (ltb-true i k e) (omega arith) t))
      (λ e.
      let q : k ≡ i = omega (arith, ltb-false i k e) in
      let s : p i ≡ true = ap p (sym q) ∙ t in
      rw s (inl q))

  -- a number of the range at which the test holds is among them
  pub in_numbers_where : (a b k : ℕ) → a ≤ k → k < b → p k ≡ true → In k (numbers_where a b p)
  unfolding numbers_where
  in_numbers_where a b k l h t = in_from a (b - a) k l (omega arith) t

  pub numbers_where_any : (i b : ℕ) → any (eqb i) (numbers_where 0 b p) ≡ (ltb i b && p i)
  numbers_where_any i b =
      same_test _ _
      (λ e.
      let f = any_find (eqb i) (numbers_where 0 b p) e in
      let q : i ≡ f.0 = eqb-true i f.0 f.2 in
      let r = numbers_where_in 0 b f.0 f.1 in
      and_both (ltb i b) (p i) (lt-ltb i b (omega (arith, r.1))) (ap p q ∙ r.2))
      (λ e.
      any_in (eqb i) (numbers_where 0 b p) i
      (in_numbers_where 0 b i (omega arith) (ltb-true i b (and_left (ltb i b) (p i) e)) (and_right (ltb i b) (p i) e))
      (eq-eqb i i refl))

  -- where there are some, one is found
  pub numbers_where_find : (a b : ℕ) → 0 < length (numbers_where a b p) → (k : ℕ) × (a ≤ k) × (k < b) × (p k ≡ true)
  numbers_where_find a b h = let f = first (numbers_where a b p) h in let r = numbers_where_in a b f.0 f.1 in (f.0, r.0, r.1, r.2)
    where
      first : (xs : List ℕ) → 0 < length xs → (x : ℕ) × In x xs
      first [] g = absurd (omega arith)
      first (x ∷ xs) g = (x, inl refl)

  -- ---- how many, and the largest

  -- one number more
  pub length_more : (a b : ℕ) → a ≤ b → length (numbers_where a (b + 1) p) ≡ length (numbers_where a b p) + pick (p b) 1 0
  length_more a b l =
      rw (numbers_where_more a b l, length-append)
      (ap (λ (x : ℕ). length (numbers_where a b p) + x) (length_pick (p b) b [] ∙ add-zero (pick (p b) 1 0)))

  most_from : (i n : ℕ) → length (numbers_where_from p i n) ≤ n
  unfolding numbers_where_from
  most_from i zero = omega arith
  most_from i (suc n) =
      let more = most_from (suc i) n in
      by_test (p i) (λ t. rw t (omega arith)) (λ t. rw t (omega arith))

  -- no more than the range has
  pub length_most : (a b : ℕ) → length (numbers_where a b p) ≤ b - a
  unfolding numbers_where
  length_most a b = most_from a (b - a)

  -- the largest value of a function at them
  pub largest_at : (f : ℕ → ℕ) (a b k : ℕ) → a ≤ k → k < b → p k ≡ true → f k ≤ largest (map f (numbers_where a b p))
  largest_at f a b k l h t =
      largest_in (map f (numbers_where a b p)) (f k) (map_in f k (numbers_where a b p) (in_numbers_where a b k l h t))

  pub largest_at_most : (f : ℕ → ℕ) (a b m : ℕ) → ((k : ℕ) → a ≤ k → k < b → p k ≡ true → f k ≤ m)
      → largest (map f (numbers_where a b p)) ≤ m
  largest_at_most f a b m h =
      largest_most m (map f (numbers_where a b p))
      (λ x i.
      let w = in_map f x (numbers_where a b p) i in
      let r = numbers_where_in a b w.0 w.1 in
      omega (arith, w.2, h w.0 r.0 r.1 r.2))

-- ---- two tests
module _ (p q : ℕ → Bool) where
  ext_from : (i n : ℕ) → ((k : ℕ) → i ≤ k → k < i + n → p k ≡ q k) → numbers_where_from p i n ≡ numbers_where_from q i n
  unfolding numbers_where_from
  ext_from i zero h = refl
  ext_from i (suc n) h =
      rw (h i (omega arith) (omega arith), ext_from (suc i) n (λ k u v. h k (omega arith) (omega arith))) refl

  -- tests that agree
  pub numbers_where_ext : (a b : ℕ) → ((k : ℕ) → a ≤ k → k < b → p k ≡ q k) → numbers_where a b p ≡ numbers_where a b q
  unfolding numbers_where
  numbers_where_ext a b h = ext_from a (b - a) (λ k x y. h k x (omega arith))

  pick_kept : (s : Bool) (i : ℕ) (xs ys : List ℕ) → ys ≡ kept q xs → pick (s && q i) (i ∷ ys) ys ≡ kept q (pick s (i ∷ xs) xs)
  unfolding kept
  pick_kept true i xs ys e = rw e refl
  pick_kept false i xs ys e = e

  kept_from : (i n : ℕ) → numbers_where_from (λ k. p k && q k) i n ≡ kept q (numbers_where_from p i n)
  unfolding numbers_where_from kept
  kept_from i zero = refl
  kept_from i (suc n) =
      pick_kept (p i) i (numbers_where_from p (suc i) n) (numbers_where_from (λ k. p k && q k) (suc i) n) (kept_from (suc i) n)

  -- where both tests hold: those of the one that the other keeps
  pub numbers_where_kept : (a b : ℕ) → numbers_where a b (λ k. p k && q k) ≡ kept q (numbers_where a b p)
  unfolding numbers_where
  numbers_where_kept a b = kept_from a (b - a)

module _ (p q : ℕ → Bool) where
  -- tests that agree but at i, where the second does not hold
  pub length_but_one : (a i b : ℕ) → a ≤ i → i < b → q i ≡ false → ((k : ℕ) → a ≤ k → k < b → (k ≡ i → ⊥) → p k ≡ q k)
      → length (numbers_where a b p) ≡ length (numbers_where a b q) + pick (p i) 1 0
  length_but_one a i b l g off same =
      omega (
        arith,
        parts p,
        parts q,
        ap (λ (t : Bool). pick {A = ℕ} t 1 0) off,
        ap length (numbers_where_ext p q a i (λ k x y. same k x (omega arith) (λ e. omega arith))),
        ap length (numbers_where_ext p q (i + 1) b (λ k x y. same k (omega arith) y (λ e. omega arith))),
      )
    where
      parts : (r : ℕ → Bool)
          → length (numbers_where a b r) ≡ length (numbers_where a i r) + pick (r i) 1 0 + length (numbers_where (i + 1) b r)
      parts r =
          omega (
            arith,
            ap length (numbers_where_split r a (i + 1) b (omega arith) (omega arith)),
            length-append (numbers_where a (i + 1) r) (numbers_where (i + 1) b r),
            length_more r a i l,
          )

  -- the first holds only where the second does
  module _ (a b : ℕ) (fewer : (k : ℕ) → a ≤ k → k < b → p k ≡ true → q k ≡ true) where
    -- so it keeps some of the second's
    numbers_where_fewer : numbers_where a b p ≡ kept p (numbers_where a b q)
    numbers_where_fewer =
        numbers_where_ext p (λ k. q k && p k) a b
        (λ k l h. by_test (p k) (λ t. rw (t, fewer k l h t) refl) (λ f. rw (f, and-false) refl))
        ∙ numbers_where_kept q p a b

    pub length_fewer : length (numbers_where a b p) ≤ length (numbers_where a b q)
    length_fewer = rw numbers_where_fewer (kept_fewer p (numbers_where a b q))

    pub sum_fewer : (f : ℕ → ℕ) → sum (map f (numbers_where a b p)) ≤ sum (map f (numbers_where a b q))
    sum_fewer f = rw numbers_where_fewer (sum_kept p f (numbers_where a b q))

    pub largest_fewer : (f g : ℕ → ℕ) → ((k : ℕ) → a ≤ k → k < b → f k ≤ g k)
        → largest (map f (numbers_where a b p)) ≤ largest (map g (numbers_where a b q))
    largest_fewer f g h =
        largest_at_most p f a b (largest (map g (numbers_where a b q)))
        (λ k l m t. omega (arith, h k l m, largest_at q g a b k l m (fewer k l m t)))

-- p holds where q does and where r does, and these never together
module _ (p q r : ℕ → Bool) where
  length_from : (s : ℕ → Bool) (i n : ℕ) → length (numbers_where_from s i (suc n)) ≡ pick (s i) 1 0 + length (numbers_where_from s (suc i) n)
  unfolding numbers_where_from
  length_from s i n = length_pick (s i) i (numbers_where_from s (suc i) n)

  parted_from : (i n : ℕ) → ((k : ℕ) → i ≤ k → k < i + n → pick (p k) 1 0 ≡ pick (q k) 1 0 + pick (r k) 1 0)
      → length (numbers_where_from p i n) ≡ length (numbers_where_from q i n) + length (numbers_where_from r i n)
  parted_from i zero h = unfold numbers_where_from in refl
  parted_from i (suc n) h =
      omega (
        arith,
        length_from p i n,
        length_from q i n,
        length_from r i n,
        h i (omega arith) (omega arith),
        parted_from (suc i) n (λ k a l. h k (omega arith) (omega arith)),
      )

  pub numbers_where_parted : (a b : ℕ) → a ≤ b → ((k : ℕ) → a ≤ k → k < b → pick (p k) 1 0 ≡ pick (q k) 1 0 + pick (r k) 1 0)
      → length (numbers_where a b p) ≡ length (numbers_where a b q) + length (numbers_where a b r)
  unfolding numbers_where
  numbers_where_parted a b l h = parted_from a (b - a) (λ k x y. h k x (omega arith))
