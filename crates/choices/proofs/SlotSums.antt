-- Four numbers, rising, of which the least goes and another comes: they rise again, and how many of them are above a time.
-- Assumes nothing.
use Prim.Native.Nat.{ℕ, ◌+◌, ◌-◌, ◌≤◌, ◌<◌, min, max}
use mathlib.Core.Path.{◌≡◌, refl}
use native.Mathlib.Omega.{arith}
use native.Mathlib.Decide.{dec_le}
use lib.Dec.{ltb}
use borrow.Author.Tests.{ltb-true, ltb-false}
use Rattle.lists.specs.Lists.{pick}
use Rattle.lists.proofs.Bools.{by_test}
use Rattle.record.specs.declared.Block.{Block}
use Rattle.model.specs.Cycles.{units}
use Rattle.choices.specs.declared.UnitTimes.{UnitTimes}
use Rattle.choices.specs.inside.PlayNotes.{above}

module _ (t : ℕ) where
  -- 1 for a number above t
  unfoldable pub over : ℕ → ℕ
  over x = min 1 (x - t)

  over_yes : (x : ℕ) → t < x → over x ≡ 1
  unfolding over
  over_yes x h = omega arith

  over_no : (x : ℕ) → x ≤ t → over x ≡ 0
  unfolding over
  over_no x h = omega arith

  over_most : (x : ℕ) → over x ≤ 1
  unfolding over
  over_most x = omega arith

  -- two numbers put in order are the same two
  pair : (x y : ℕ) → over (min x y) + over (max x y) ≡ over x + over y
  pair x y = in_order (dec_le x y)
    where
      in_order : Dec (x ≤ y) → over (min x y) + over (max x y) ≡ over x + over y
      in_order (yes h) = let a : min x y ≡ x = omega arith in let b : max x y ≡ y = omega arith in rw (a, b) refl
      in_order (no h) = let a : min x y ≡ y = omega arith in let b : max x y ≡ x = omega arith in rw (a, b) (omega arith)

  three_pairs : (a b c d q r u e y z : ℕ) → a + y ≡ q + e → b + z ≡ r + y → c + d ≡ u + z → a + b + c + d ≡ q + r + u + e
  three_pairs a b c d q r u e y z i j k = omega arith

  -- the numbers that stay and the one that comes
  pub over_inserted : (q r u e : ℕ)
      → over (min q e) + over (min r (max q e)) + over (min u (max r (max q e))) + over (max u (max r (max q e))) ≡ over q + over r + over u + over e
  over_inserted q r u e =
      three_pairs _ _ _ _ _ _ _ _ (over (max q e)) (over (max r (max q e)))
      (pair q e) (pair r (max q e)) (pair u (max r (max q e)))

  -- ---- as many as are held, and as many more as there are units too few: w
  one_more : (p q r u e w : ℕ) → p ≡ 0 → e ≡ 1 → q ≤ 1 → r ≤ 1 → u ≤ 1 → p + q + r + u ≡ min 4 w → q + r + u + e ≡ min 4 (w + 1)
  one_more p q r u e w a b c d f g = omega arith

  all_above : (p q r u e w : ℕ) → p ≡ 1 → q ≡ 1 → r ≡ 1 → u ≡ 1 → e ≡ 1 → p + q + r + u ≡ min 4 w → q + r + u + e ≡ min 4 (w + 1)
  all_above p q r u e w a b c d f g = omega arith

  as_many : (p q r u e w : ℕ) → p ≡ 0 → e ≡ 0 → p + q + r + u ≡ min 4 w → q + r + u + e ≡ min 4 (w + 0)
  as_many p q r u e w a b g = omega arith

  pub over_held : (p q r u e w : ℕ) → p ≤ q → q ≤ r → r ≤ u → p ≤ e → over p + over q + over r + over u ≡ min 4 w
      → over q + over r + over u + over e ≡ min 4 (w + pick (ltb t e) 1 0)
  over_held p q r u e w a b c d g =
      by_test (ltb t e)
      (λ y. rw y (by_first (ltb-true t e y) (dec_le p t)))
      (λ y.
      let h = ltb-false t e y in
      rw y (as_many (over p) (over q) (over r) (over u) (over e) w (over_no p (omega arith)) (over_no e h) g))
    where
      by_first : t < e → Dec (p ≤ t) → over q + over r + over u + over e ≡ min 4 (w + 1)
      by_first h (yes k) =
          one_more (over p) (over q) (over r) (over u) (over e) w (over_no p k) (over_yes e h) (over_most q) (over_most r) (over_most u) g
      by_first h (no k) =
          all_above (over p) (over q) (over r) (over u) (over e) w (over_yes p (omega arith)) (over_yes q (omega arith)) (over_yes r (omega arith))
          (over_yes u (omega arith)) (over_yes e h) g

  -- ---- the first of them is the first time at which one is free
  pub first_from : (p q r u m h : ℕ) → p ≤ q → q ≤ r → r ≤ u → m ≤ 4 → over p + over q + over r + over u ≡ min 4 (4 - m + h) → h < m → p ≤ t
  first_from p q r u m h a b c d g k = from_test (dec_le p t)
    where
      from_test : Dec (p ≤ t) → p ≤ t
      from_test (yes z) = z
      from_test (no z) =
          absurd (omega (arith, over_yes p (omega arith), over_yes q (omega arith), over_yes r (omega arith), over_yes u (omega arith), g))

  pub first_on : (p q r u m h : ℕ) → m ≤ 4 → over p + over q + over r + over u ≡ min 4 (4 - m + h) → p ≤ t → h < m
  first_on p q r u m h d g k = omega (arith, over_no p k, over_most q, over_most r, over_most u, g)

-- how many units of a kind there may be
pub units_range : (b : Block) (k : ℕ) → (1 ≤ units b k) × (units b k ≤ 4)
unfolding units
units_range b k = (omega arith, omega arith)

-- how many of a kind's four numbers are above a time
pub above_over : (u : UnitTimes) (t : ℕ) → above u t ≡ over t u.first + over t u.second + over t u.third + over t u.fourth
unfolding above over
above_over u t = refl

-- ---- they rise
pub rise_first : (q r e : ℕ) → q ≤ r → min q e ≤ min r (max q e)
rise_first q r e a = omega arith

pub rise_second : (r u y : ℕ) → r ≤ u → min r y ≤ min u (max r y)
rise_second r u y a = omega arith

pub rise_third : (u z : ℕ) → min u z ≤ max u z
rise_third u z = omega arith
