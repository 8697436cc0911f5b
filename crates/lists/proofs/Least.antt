-- The first index of a fault: where it is, that none is below it, and that it goes by the faults alone; and whether there
-- is one. Assumes nothing.
use mathlib.Core.Path.{◌≡◌, refl, sym, ap, ◌∙◌}
use mathlib.Core.Bool.{Bool, true, false, false≢true}
use Prim.Native.Nat.{ℕ, zero, suc, ◌+◌, ◌-◌, ◌≤◌, ◌<◌}
use native.Mathlib.Omega.{arith}
use lib.Dec.{ltb}
use borrow.Author.Tests.{ltb-true, ltb-false, le-ltb, lt-ltb}
use Rattle.std.specs.Prelude.{Option, Some, None, unwrap_or}
use Rattle.lists.specs.Lists.{least_from, least, first_at, exists}
use Rattle.lists.proofs.Bools.{by_test}

module _ (p : ℕ → Bool) where
  here_from : (i n j : ℕ) → i ≤ j → j < i + n → ((k : ℕ) → i ≤ k → k < j → p k ≡ false) → p j ≡ true → least_from p i n ≡ j
  unfolding least_from
  here_from i zero j l h a t = absurd (omega arith)
  here_from i (suc n) j l h a t =
      by_test (ltb i j)
      (λ e.
      let q : i < j = ltb-true i j e in
      rw (a i (omega arith) q) (here_from (suc i) n j q (omega arith) (λ k u v. a k (omega arith) v) t))
      (λ e.
      let q : i ≡ j = omega (arith, ltb-false i j e) in
      let s : p i ≡ true = ap p q ∙ t in
      rw s q)

  none_from : (i n : ℕ) → ((k : ℕ) → i ≤ k → k < i + n → p k ≡ false) → least_from p i n ≡ i + n
  unfolding least_from
  none_from i zero a = omega arith
  none_from i (suc n) a =
      rw (a i (omega arith) (omega arith))
      (none_from (suc i) n (λ k u v. a k (omega arith) (omega arith)) ∙ omega arith)

  ge_from : (i n : ℕ) → i ≤ least_from p i n
  unfolding least_from
  ge_from i zero = omega arith
  ge_from i (suc n) = by_test (p i) (λ e. rw e (omega arith)) (λ e. rw e (omega (arith, ge_from (suc i) n)))

  below_from : (i n k : ℕ) → i ≤ k → k < least_from p i n → k < i + n → p k ≡ false
  unfolding least_from
  below_from i zero k l h q = absurd (omega arith)
  below_from i (suc n) k l h q =
      by_test (p i) (λ e. absurd (omega (arith, rw e at h)))
      (λ e.
      by_test (ltb i k)
      (λ u. below_from (suc i) n k (ltb-true i k u) (rw e at h) (omega arith))
      (λ u. let s : i ≡ k = omega (arith, ltb-false i k u) in ap p (sym s) ∙ e))

  at_from : (i n : ℕ) → least_from p i n < i + n → p (least_from p i n) ≡ true
  unfolding least_from
  at_from i zero h = absurd (omega arith)
  at_from i (suc n) h =
      by_test (p i) (λ e. rw e e)
      (λ e. let g : least_from p (suc i) n < suc i + n = omega (arith, rw e at h) in rw e (at_from (suc i) n g))

  le_from : (i n : ℕ) → least_from p i n ≤ i + n
  unfolding least_from
  le_from i zero = omega arith
  le_from i (suc n) = by_test (p i) (λ e. rw e (omega arith)) (λ e. rw e (omega (arith, le_from (suc i) n)))

ext_from : (p q : ℕ → Bool) (i n : ℕ) → ((k : ℕ) → i ≤ k → k < i + n → p k ≡ q k) → least_from p i n ≡ least_from q i n
unfolding least_from
ext_from p q i zero a = refl
ext_from p q i (suc n) a =
    rw (a i (omega arith) (omega arith), ext_from p q (suc i) n (λ k u v. a k (omega arith) (omega arith))) refl

module _ (a b : ℕ) (p : ℕ → Bool) where
  pub least_here : (i : ℕ) → a ≤ i → i < b → ((k : ℕ) → a ≤ k → k < i → p k ≡ false) → p i ≡ true → least a b p ≡ i
  unfolding least
  least_here i l h u t = here_from p a (b - a) i l (omega arith) u t

  pub least_none : a ≤ b → ((k : ℕ) → a ≤ k → k < b → p k ≡ false) → least a b p ≡ b
  unfolding least
  least_none l u = none_from p a (b - a) (λ k x y. u k x (omega arith)) ∙ omega arith

  pub least_from_lem : a ≤ least a b p
  unfolding least
  least_from_lem = ge_from p a (b - a)

  -- below the first fault there is none
  pub least_below : (k : ℕ) → a ≤ k → k < least a b p → k < b → p k ≡ false
  unfolding least
  least_below k l h q = below_from p a (b - a) k l h (omega arith)

  pub least_ext : (q : ℕ → Bool) → ((k : ℕ) → a ≤ k → k < b → p k ≡ q k) → least a b p ≡ least a b q
  unfolding least
  least_ext q u = ext_from p q a (b - a) (λ k x y. u k x (omega arith))

  -- there is a fault at the first one
  pub least_at : least a b p < b → p (least a b p) ≡ true
  unfolding least
  least_at h = at_from p a (b - a) (omega (arith, ge_from p a (b - a)))

  pub least_most : a ≤ b → least a b p ≤ b
  unfolding least
  least_most l = omega (arith, le_from p a (b - a))

  -- past indices without a fault
  pub least_past : (m : ℕ) → m ≤ b → ((k : ℕ) → a ≤ k → k < m → p k ≡ false) → m ≤ least a b p
  least_past m l u =
      by_test (ltb (least a b p) m)
      (λ e.
      let h : least a b p < m = ltb-true _ _ e in
      let x : p (least a b p) ≡ true = least_at (omega arith) in
      let y : p (least a b p) ≡ false = u (least a b p) least_from_lem h in
      let z : ◌≡◌ {A = ℕ} 0 1 = cc in
      absurd (omega arith))
      (λ e. ltb-false _ _ e)

-- one walk from a to b, by where it stops: before m, or from m on
module _ (a m b : ℕ) (p : ℕ → Bool) (l : a ≤ m) (g : m ≤ b) where
  pub least_front : least a b p < m → least a m p ≡ least a b p
  least_front h =
      least_here a m p (least a b p) (least_from_lem a b p) h (λ k u v. least_below a b p k u v (omega arith)) (least_at a b p (omega arith))

  pub least_front_none : m ≤ least a b p → least a m p ≡ m
  least_front_none h = least_none a m p l (λ k u v. least_below a b p k u (omega arith) (omega arith))

  pub least_back : m ≤ least a b p → least m b p ≡ least a b p
  least_back h =
      by_test (ltb (least a b p) b)
      (λ e.
      let q : least a b p < b = ltb-true _ _ e in
      least_here m b p (least a b p) h q (λ k u v. least_below a b p k (omega arith) v (omega arith)) (least_at a b p q))
      (λ e.
      let most : least a b p ≤ b = least_most a b p (omega arith) in
      let q : least a b p ≡ b = omega (arith, ltb-false (least a b p) b e, most) in
      rw q (least_none m b p g (λ k u v. least_below a b p k (omega arith) (omega arith) v)))

-- ---- a number at which a test holds
module _ (a b : ℕ) (p : ℕ → Bool) where
  pub exists_not : exists a b p ≡ false → (v : ℕ) → a ≤ v → v < b → p v ≡ false
  unfolding exists
  exists_not e v l h = least_below a b p v l (omega (arith, ltb-false (least a b p) b e)) h

  pub exists_here : (v : ℕ) → a ≤ v → v < b → p v ≡ true → exists a b p ≡ true
  exists_here v l h t = by_test (exists a b p) (λ e. e) (λ e. absurd (false≢true (sym (exists_not e v l h) ∙ t)))

  pub exists_none : a ≤ b → ((v : ℕ) → a ≤ v → v < b → p v ≡ false) → exists a b p ≡ false
  unfolding exists
  exists_none l h = le-ltb (least a b p) b (omega (arith, least_none a b p l h))

-- ---- the first number at which a test holds, if there is one
module _ (a b : ℕ) (p : ℕ → Bool) where
  pub first_here : (i : ℕ) → a ≤ i → i < b → ((k : ℕ) → a ≤ k → k < i → p k ≡ false) → p i ≡ true → first_at a b p ≡ Some i
  unfolding first_at
  first_here i l h u t = rw (least_here a b p i l h u t, lt-ltb i b h) refl

  pub first_none : a ≤ b → ((k : ℕ) → a ≤ k → k < b → p k ≡ false) → first_at a b p ≡ None
  unfolding first_at
  first_none l u = rw (least_none a b p l u, le-ltb b b (omega arith)) refl

  -- by what it is: where the walk stopped
  pub stopped_at : (i : ℕ) → first_at a b p ≡ Some i → (i ≡ least a b p) × (i < b)
  unfolding first_at
  stopped_at i e =
      by_test (ltb (least a b p) b)
      (λ t.
      let q : ◌≡◌ {A = Option ℕ} (Some (least a b p)) (Some i) = rw t at e in
      let s : least a b p ≡ i = cc in
      (sym s, omega (arith, ltb-true _ _ t, s)))
      (λ t. let q : ◌≡◌ {A = Option ℕ} None (Some i) = rw t at e in cc)

  pub stopped_not : first_at a b p ≡ None → b ≤ least a b p
  unfolding first_at
  stopped_not e =
      by_test (ltb (least a b p) b)
      (λ t. let q : ◌≡◌ {A = Option ℕ} (Some (least a b p)) None = rw t at e in cc)
      (λ t. ltb-false _ _ t)

  -- the end of the walk where there is none
  pub first_or : a ≤ b → unwrap_or (first_at a b p) b ≡ least a b p
  unfolding first_at
  first_or l =
      by_test (ltb (least a b p) b)
      (λ t. rw t refl)
      (λ t. rw t (omega (arith, least_most a b p l, ltb-false _ _ t)))
