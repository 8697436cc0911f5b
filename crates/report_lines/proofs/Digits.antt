-- The fewest digits that hold a number are its decimal text. Assumes nothing.
use mathlib.Core.Path.{◌≡◌, refl, ◌∙◌}
use mathlib.Core.List.{List}
use Prim.Native.Nat.{ℕ, zero, suc, ◌*◌, ◌-◌, ◌/◌, ◌%◌, ◌^◌, ◌≤◌, ◌<◌}
use native.Mathlib.Nat.{pow-zero, pow-suc, div-lt_iff_lt-mul, one-le-pow, pow-le-pow_right}
use native.Mathlib.Omega.{arith}
use lib.ListN.{length, take}
use lib.Dec.{ltb}
use borrow.Author.Tests.{lt-ltb, le-ltb, ltb-true, ltb-false}
use Rattle.lists.proofs.Bools.{by_test}
use Rattle.io.specs.Counts.{IsPrefixLen}
use Rattle.io.specs.Digits.{last_digits, IsDigitCount}
use Rattle.report_lines.specs.Text.{digits_of, decimal}

fewest_digits : (k r x : ℕ) → r ≤ k → IsDigitCount 10 1 x r → last_digits 10 r x ≡ digits_of k x
unfolding digits_of
fewest_digits zero r x l f = absurd (omega (arith, f.0))
fewest_digits (suc k) zero x l f = absurd (omega (arith, f.0))
fewest_digits (suc k) (suc zero) x l f =
    let few : x < 10 = omega (arith, f.1, pow-suc 10 0, pow-zero 10) in
    let same : x % 10 ≡ x = omega arith in
    rw (same, lt-ltb x 10 few) refl
fewest_digits (suc k) (suc (suc m)) x l f =
    let most : x < 10 ^ suc m * 10 = rw (← pow-suc 10 (suc m)) f.1 in
    let back : suc (suc m) - 1 ≡ suc m = omega arith in
    let least : 10 ^ m * 10 ≤ x = rw (← pow-suc 10 m) (rw back at (f.2 (omega arith))) in
    let many : 10 ≤ x = omega (arith, least, one-le-pow m 10 (omega arith)) in
    let less : x / 10 < 10 ^ suc m = (div-lt_iff_lt-mul {k = 10} {x = x} {y = 10 ^ suc m} (omega arith)).1 most in
    let near : suc m - 1 ≡ m = omega arith in
    let one : x % 10 < 10 = omega arith in
    rw (
      le-ltb x 10 many,
      lt-ltb (x % 10) 10 one,
      fewest_digits k (suc m) (x / 10) (omega arith) (omega arith, less, λ _. rw near (omega (arith, least))),
    )
    refl

-- a number of 64 bits has 20 digits at most
fewest_most : (x r : ℕ) → x < 18446744073709551616 → IsDigitCount 10 1 x r → r ≤ 20
fewest_most x r h f =
    by_test (ltb 20 r)
    (λ t.
    let many : 20 < r = ltb-true 20 r t in
    let p : 10 ^ 20 ≤ 10 ^ (r - 1) = pow-le-pow_right {n = 10} (omega arith) {i = 20} {j = r - 1} (omega arith) in
    let q : 10 ^ 20 ≡ 100000000000000000000 = refl in
    absurd (omega (arith, f.2 (omega arith))))
    (λ t. ltb-false 20 r t)

-- what spells a number is its decimal text
pub spelled : (x r : ℕ) (s : List ℕ) → x < 18446744073709551616 → IsPrefixLen r s → IsDigitCount 10 1 x r → take r s ≡ last_digits 10 r x
    → (take r s ≡ decimal x) × (length (decimal x) ≤ 20)
unfolding decimal
spelled x r s h c f e =
    let few : r ≤ 20 = fewest_most x r h f in
    let d : take r s ≡ digits_of 20 x = e ∙ fewest_digits 20 r x few f in
    (d, rw (← d) (omega (arith, c.1)))
