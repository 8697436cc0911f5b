-- The check word by word: one word more, the 508 bytes that it goes by, and that it fits four bytes. Assumes nothing.
use mathlib.Core.Path.{◌≡◌, refl, ◌∙◌}
use mathlib.Core.List.{List, []}
use Prim.Native.Nat.{ℕ, zero, suc, ◌+◌, ◌*◌, ◌%◌, ◌≤◌, ◌<◌}
use native.Mathlib.Numerals.{add-one}
use native.Mathlib.Omega.{arith}
use lib.ListN.{get_or, take, drop}
use lib.Seq.{drop-drop}
use native.Mathlib.Nat.{mul-zero, mul-suc, add_comm}
use Rattle.std.proofs.lemmas.List.{get_or-take, get_or-drop}
use Rattle.std.specs.Simd.{first_chunks}
use Rattle.lists.specs.Bytes.{little}
use Rattle.lists.proofs.Little.{little_ext}
use Rattle.record.specs.Check.{word, sum_a, sum_b, check_of}

word_is : (s : List ℕ) (k : ℕ) → word s k ≡ get_or s (2 * k) 0 + 256 * get_or s (2 * k + 1) 0
unfolding little
word_is s k = omega arith

pub sum_a_more : (s : List ℕ) (k : ℕ) → sum_a s (k + 1) ≡ (sum_a s k + (get_or s (2 * k) 0 + 256 * get_or s (2 * k + 1) 0)) % 65535
unfolding sum_a
sum_a_more s k = rw (add-one, word_is s k) refl

pub sum_b_more : (s : List ℕ) (k : ℕ) → sum_b s (k + 1) ≡ (sum_b s k + sum_a s (k + 1)) % 65535
unfolding sum_b
sum_b_more s k = rw (add-one k) refl

module _ (s t : List ℕ) (h : (k : ℕ) → k < 508 → get_or s k 0 ≡ get_or t k 0) where
  word_ext : (k : ℕ) → k < 254 → word s k ≡ word t k
  word_ext k q = little_ext 2 s t (2 * k) (2 * k) (λ j u. h (2 * k + j) (omega arith))

  sum_a_ext : (k : ℕ) → k ≤ 254 → sum_a s k ≡ sum_a t k
  unfolding sum_a
  sum_a_ext zero q = refl
  sum_a_ext (suc k) q = rw (sum_a_ext k (omega arith), word_ext k q) refl

  sum_b_ext : (k : ℕ) → k ≤ 254 → sum_b s k ≡ sum_b t k
  unfolding sum_b
  sum_b_ext zero q = refl
  sum_b_ext (suc k) q = rw (sum_b_ext k (omega arith), sum_a_ext (suc k) q) refl

  -- the same first 508 bytes, the same check
  pub check_ext : check_of s ≡ check_of t
  unfolding check_of
  check_ext = rw (sum_a_ext 254 (omega arith), sum_b_ext 254 (omega arith)) refl

sum_a_lt : (s : List ℕ) (k : ℕ) → sum_a s k < 65535
unfolding sum_a
sum_a_lt s zero = omega arith
sum_a_lt s (suc k) = omega arith

sum_b_lt : (s : List ℕ) (k : ℕ) → sum_b s k < 65535
unfolding sum_b
sum_b_lt s zero = omega arith
sum_b_lt s (suc k) = omega arith

pub check_lt : (s : List ℕ) → check_of s < 4294967296
unfolding check_of
check_lt s = omega (arith, sum_a_lt s 254, sum_b_lt s 254)

-- ---- words as chunks of two
chunk_is : {X : Type 0} (n c : ℕ) (xs : List X) (k : ℕ) → k < c → get_or (first_chunks n c xs) k [] ≡ take n (drop (n * k) xs)
chunk_is n zero xs k h = absurd (omega arith)
chunk_is n (suc c) xs zero h = rw mul-zero refl
chunk_is n (suc c) xs (suc k) h = chunk_is n c (drop n xs) k (omega arith) ∙ rw (drop-drop (n * k) n xs, mul-suc, add_comm (n * k) n) refl

module _ (s : List ℕ) (k : ℕ) (h : k < 254) where
  -- byte j of word k, the words being those of the first 508 bytes
  pub chunk_byte : (j : ℕ) → j < 2 → get_or (get_or (first_chunks 2 254 (take 508 s)) k []) j 0 ≡ get_or s (2 * k + j) 0
  chunk_byte j q = rw (chunk_is 2 254 (take 508 s) k h) (get_or-take 2 _ j 0 q ∙ get_or-drop (2 * k) (take 508 s) j 0 ∙ get_or-take 508 s (2 * k + j) 0 (omega arith))
