-- A number and its little-endian bytes, for every width. Assumes nothing.
use mathlib.Core.Path.{◌≡◌, refl, ap, ◌∙◌}
use mathlib.Core.List.{List, [], ◌∷◌}
use Prim.Native.Nat.{ℕ, zero, suc, ◌+◌, ◌*◌, ◌/◌, ◌%◌, ◌^◌, ◌<◌}
use native.Mathlib.Nat.{add-zero, zero-add, pow-zero, pow-suc, div-lt_iff_lt-mul}
use native.Mathlib.Numerals.{one-add}
use native.Mathlib.Omega.{arith}
use lib.ListN.{length, get_or}
use Rattle.lists.specs.Bytes.{little, bytes}

next : (i k : ℕ) → i + 1 + k ≡ i + suc k
next i k = omega arith

pub length_bytes : (w x : ℕ) → length (bytes w x) ≡ w
unfolding bytes
length_bytes zero x = refl
length_bytes (suc w) x = ap suc (length_bytes w (x / 256))

-- the same bytes, the same number
pub little_ext : (w : ℕ) (s t : List ℕ) (i j : ℕ) → ((k : ℕ) → k < w → get_or s (i + k) 0 ≡ get_or t (j + k) 0) → little w s i ≡ little w t j
unfolding little
little_ext zero s t i j h = refl
little_ext (suc w) s t i j h =
    let a : get_or s i 0 ≡ get_or t j 0 = rw (add-zero, add-zero) at (h 0 (omega arith)) in
    let b : (k : ℕ) → k < w → get_or s (i + 1 + k) 0 ≡ get_or t (j + 1 + k) 0
    = λ k q. rw (next i k, next j k) (h (suc k) (omega arith)) in
    rw (a, little_ext w s t (i + 1) (j + 1) b) refl

-- the number of a number's bytes
pub little_bytes : (w x : ℕ) → x < 256 ^ w → little w (bytes w x) 0 ≡ x
unfolding little bytes
little_bytes zero x h = omega (arith, pow-zero 256)
little_bytes (suc w) x h =
    let g : x / 256 < 256 ^ w = (div-lt_iff_lt-mul {k = 256} {x = x} {y = 256 ^ w} (omega arith)).1 (rw pow-suc at h) in
    let e : little w (x % 256 ∷ bytes w (x / 256)) 1 ≡ x / 256
    = little_ext w (x % 256 ∷ bytes w (x / 256)) (bytes w (x / 256)) 1 0 (λ k q. rw (one-add, zero-add) refl) ∙ little_bytes w (x / 256) g in
    rw e (omega arith)

-- the bytes of the bytes' number
pub bytes_little : (w : ℕ) (s : List ℕ) (i : ℕ) → ((k : ℕ) → get_or s k 0 < 256) → (k : ℕ) → k < w → get_or (bytes w (little w s i)) k 0 ≡ get_or s (i + k) 0
unfolding little bytes
bytes_little zero s i u k h = absurd (omega arith)
bytes_little (suc w) s i u zero h = rw add-zero (omega (arith, u i))
bytes_little (suc w) s i u (suc k) h =
    let e : (get_or s i 0 + 256 * little w s (i + 1)) / 256 ≡ little w s (i + 1) = omega (arith, u i) in
    rw e (bytes_little w s (i + 1) u k (omega arith) ∙ ap (λ n. get_or s n 0) (next i k))

-- the number of w bytes
pub little_below : (w : ℕ) (s : List ℕ) (i : ℕ) → ((k : ℕ) → get_or s k 0 < 256) → little w s i < 256 ^ w
unfolding little
little_below zero s i u = omega (arith, pow-zero 256)
little_below (suc w) s i u = rw pow-suc (omega (arith, u i, little_below w s (i + 1) u))

-- the four bytes as the machine takes them
pub four_bytes : (x : ℕ) → x % 256 ∷ x / 256 % 256 ∷ x / 65536 % 256 ∷ x / 16777216 % 256 ∷ [] ≡ bytes 4 x
unfolding bytes
four_bytes x =
    let third : x / 65536 ≡ x / 256 / 256 = omega arith in
    let last : x / 16777216 ≡ x / 256 / 256 / 256 = omega arith in
    rw (third, last) refl
