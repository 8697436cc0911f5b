-- An archive read in pieces of 65,536 bytes gives the whole report. Assumes nothing.
use mathlib.Core.Path.{◌≡◌, refl, sym, ◌∙◌}
use mathlib.Core.List.{List, [], ◌++◌, append-nil, append_assoc}
use Prim.Native.Nat.{ℕ, zero, suc, ◌+◌, ◌*◌, ◌/◌, ◌≤◌, ◌<◌}
use native.Mathlib.Nat.{add-zero, zero-add, add-suc, add_assoc}
use native.Mathlib.Omega.{arith}
use lib.Dec.{ltb}
use lib.ListN.{length, take, drop, length-append, length-drop, drop_of_length-le}
use lib.Seq.{length-take-le, take_all, take-add, take-append-le, drop-append-le, drop-append-add}
use borrow.Author.Tests.{ltb-true, ltb-false}
use Rattle.lists.specs.Lists.{joined}
use Rattle.lists.proofs.JoinedPieces.{joined_ext}
use Rattle.lists.proofs.Bools.{by_test}
use Rattle.report_lines.specs.Report.{line, record_at, records, lines_from}

joined_add : (f : ℕ → List ℕ) (k m : ℕ) → joined (k + m) f ≡ joined k f ++ joined m (λ j. f (k + j))
unfolding joined
joined_add f k zero = rw (add-zero, append-nil) refl
joined_add f k (suc m) = rw (add-suc, joined_add f k m) (append_assoc (joined k f) _ (f (k + m)))

-- THE LINES OF TWO PARTS, the first of k whole records, ARE THOSE OF THE FIRST AND THEN THOSE OF THE SECOND. A record of s and
-- t together that stands before place 512 k has all its bytes in s, where it has the same place. One from there on has all its
-- bytes in t, 512 k places earlier, so its index in t is smaller by k. The short tail, if there is one, is t's.
module _ (i k : ℕ) (s t : List ℕ) (whole : length s ≡ 512 * k) where
  records_sum : records (s ++ t) ≡ k + records t
  unfolding records
  records_sum = omega (arith, length-append s t)

  record_first : (j : ℕ) → j < k → record_at (s ++ t) j ≡ record_at s j
  unfolding record_at
  record_first j l =
      rw (drop-append-le (512 * j) s t (omega arith), take-append-le 512 (drop (512 * j) s) t (omega (arith, length-drop (512 * j) s))) refl

  record_second : (j : ℕ) → record_at (s ++ t) (k + j) ≡ record_at t j
  unfolding record_at
  record_second j =
      let e : 512 * (k + j) ≡ length s + 512 * j = omega arith in
      rw (e, drop-append-add s t (512 * j)) refl

  pub lines_joined : lines_from i (s ++ t) ≡ lines_from i s ++ lines_from (i + k) t
  unfolding lines_from records
  lines_joined =
      let n : (length s + 511) / 512 ≡ k = omega arith in
      let first = joined_ext (λ j. line (i + j) (record_at (s ++ t) j)) (λ j. line (i + j) (record_at s j)) k (λ j l. rw (record_first j l) refl) in
      let second = joined_ext (λ j. line (i + (k + j)) (record_at (s ++ t) (k + j))) (λ j. line (i + k + j) (record_at t j)) ((length t + 511) / 512)
      (λ j l. rw (record_second j, add_assoc i k j) refl) in
      rw (records_sum, n) (joined_add (λ j. line (i + j) (record_at (s ++ t) j)) k ((length t + 511) / 512) ∙ rw (first, second) refl)

lines_none : (i : ℕ) → lines_from i [] ≡ []
unfolding lines_from records joined
lines_none i = refl

-- READING IN PIECES. The first p pieces of s are its first 65536 p bytes, and their lines are those of these bytes: with no
-- piece there are none. One piece more: where s has 65536 p bytes, these are 128 p whole records, so the lines of the next
-- piece, numbered from 128 p on, follow theirs. Where s has fewer, the next piece is empty and has no line. With pieces enough
-- the bytes are all of s.
module _ (s : List ℕ) where
  pieces_front : (p : ℕ) → joined p (λ k. lines_from (128 * k) (take 65536 (drop (65536 * k) s))) ≡ lines_from 0 (take (65536 * p) s)
  unfolding joined
  pieces_front zero = sym (lines_none 0)
  pieces_front (suc p) =
      let e : 65536 * suc p ≡ 65536 * p + 65536 = omega arith in
      by_test (ltb (length s) (65536 * p))
      (λ h.
      let l : length s < 65536 * p = ltb-true (length s) (65536 * p) h in
      rw (
        pieces_front p,
        drop_of_length-le s {i = 65536 * p} (omega arith),
        lines_none (128 * p),
        append-nil,
        take_all (65536 * p) s (omega arith),
        take_all (65536 * suc p) s (omega arith),
      )
      refl)
      (λ h.
      let l : 65536 * p ≤ length s = ltb-false (length s) (65536 * p) h in
      let n : length (take (65536 * p) s) ≡ 512 * (128 * p) = length-take-le (65536 * p) s l ∙ omega arith in
      rw (pieces_front p, e, take-add (65536 * p) 65536 s)
      (sym (lines_joined 0 (128 * p) (take (65536 * p) s) (take 65536 (drop (65536 * p) s)) n ∙ rw zero-add refl)))

  pub report_pieces : (p : ℕ) → length s ≤ 65536 * p → joined p (λ k. lines_from (128 * k) (take 65536 (drop (65536 * k) s))) ≡ lines_from 0 s
  report_pieces p l = pieces_front p ∙ rw (take_all (65536 * p) s l) refl
