-- A test by its two outcomes, tests joined by && and || taken apart, and a claim for each of some numbers. Assumes nothing.
use mathlib.Core.Path.{◌≡◌, refl, sym, subst}
use mathlib.Core.Bool.{Bool, true, false, ◌&&◌, ◌||◌, false≢true}
use mathlib.Core.Logic.{◌⊎◌, inl, inr}
use Prim.Native.Nat.{ℕ, zero, suc, ◌+◌, ◌≤◌, ◌<◌}
use native.Mathlib.Omega.{arith}
use lib.Dec.{ltb}
use borrow.Author.Tests.{ltb-true, ltb-false}

pub by_test : {C : Type 0} (b : Bool) → (b ≡ true → C) → (b ≡ false → C) → C
by_test true t f = t refl
by_test false t f = f refl

pub or_left : (a b : Bool) → (a || b) ≡ false → a ≡ false
or_left true b e = e
or_left false b e = refl

pub or_right : (a b : Bool) → (a || b) ≡ false → b ≡ false
or_right true b e = absurd (false≢true (sym e))
or_right false b e = e

pub and_left : (a b : Bool) → (a && b) ≡ true → a ≡ true
and_left true b e = refl
and_left false b e = e

pub and_right : (a b : Bool) → (a && b) ≡ true → b ≡ true
and_right true b e = e
and_right false b e = absurd (false≢true e)

pub and_both : (a b : Bool) → a ≡ true → b ≡ true → (a && b) ≡ true
and_both true b d e = e
and_both false b d e = d

pub or_cases : (a b : Bool) → (a || b) ≡ true → (a ≡ true) ⊎ (b ≡ true)
or_cases true b e = inl refl
or_cases false b e = inr e

pub or_first : (a b : Bool) → a ≡ true → (a || b) ≡ true
or_first true b e = refl
or_first false b e = absurd (false≢true e)

pub or_second : (a b : Bool) → b ≡ true → (a || b) ≡ true
or_second true b e = refl
or_second false b e = e

-- tests that hold in the same cases are equal
pub same_test : (a b : Bool) → (a ≡ true → b ≡ true) → (b ≡ true → a ≡ true) → a ≡ b
same_test true b f g = sym (f refl)
same_test false true f g = absurd (false≢true (g refl))
same_test false false f g = refl

-- P i, P (i + 1), ..: n of them, one after the other
infixr 20 ◌▹◌
pub data Each (P : ℕ → Type 0) : ℕ → ℕ → Type 0 where
  end : {i : ℕ} → Each P i zero
  ◌▹◌ : {i n : ℕ} → P i → Each P (suc i) n → Each P i (suc n)

each_from : (P : ℕ → Type 0) {i n : ℕ} → Each P i n → (k : ℕ) → i ≤ k → k < i + n → P k
each_from P end k l h = absurd (omega arith)
each_from P {i} (◌▹◌ a rest) k l h =
    by_test (ltb i k) (λ e. each_from P rest k (ltb-true i k e) (omega arith))
    (λ e. let q : i ≡ k = omega (arith, ltb-false i k e) in subst P q a)

pub each : (P : ℕ → Type 0) (n : ℕ) → Each P 0 n → (k : ℕ) → k < n → P k
each P n a k h = each_from P a k (omega arith) (omega arith)
