-- The records of an archive as parts of its bytes. Assumes nothing.
use mathlib.Core.Path.{◌≡◌, refl, sym, ◌∙◌}
use mathlib.Core.List.{List, [], ◌++◌, append-nil}
use Prim.Native.Nat.{ℕ, ◌+◌, ◌*◌, ◌≤◌, ◌<◌, min}
use native.Mathlib.Omega.{arith}
use lib.ListN.{length, take, drop, length-append, drop_of_length-le}
use lib.Seq.{take_all, take_at, drop_at, drop-drop}
use Rattle.std.proofs.lemmas.List.{nil_from_length}
use lib.Dec.{ltb}
use borrow.Author.Tests.{ltb-true, ltb-false}
use Rattle.lists.proofs.Bools.{by_test}
use Rattle.report_lines.specs.Report.{record_at}

-- the first n of a list that has perhaps fewer
pub take_smaller : (m n : ℕ) (s : List ℕ) → m ≡ min (length s) n → take m s ≡ take n s
take_smaller m n s e =
    by_test (ltb (length s) n)
    (λ t.
    let l : length s < n = ltb-true (length s) n t in
    take_all m s (omega arith) ∙ sym (take_all n s (omega arith)))
    (λ t.
    let l : n ≤ length s = ltb-false (length s) n t in
    let k : m ≡ n = omega arith in
    rw k refl)

-- a chunk of 512 bytes, or of all that are left, and what stands behind it
chunk_parts : (t x rest : List ℕ) → t ≡ x ++ rest → length x ≡ min 512 (length t) → (x ≡ take 512 t) × (rest ≡ drop 512 t)
chunk_parts t x rest e n =
    let sum : length t ≡ length x + length rest = rw e (length-append x rest) in
    by_test (ltb (length t) 512)
    (λ h.
    let l : length t < 512 = ltb-true (length t) 512 h in
    let none : rest ≡ [] = nil_from_length rest (omega arith) in
    let all : t ≡ x = e ∙ rw none (append-nil x) in
    (sym all ∙ sym (take_all 512 t (omega arith)), none ∙ sym (drop_of_length-le t {i = 512} (omega arith))))
    (λ h.
    let l : 512 ≤ length t = ltb-false (length t) 512 h in
    let w : length x ≡ 512 = omega arith in
    (rw e (sym (take_at x rest 512 w)), rw e (sym (drop_at x rest 512 w))))

-- record k of an archive, as the chunks have it: the next of what stands from 512 k on
pub record_chunk : (s t x rest : List ℕ) (k : ℕ) → t ≡ drop (512 * k) s → t ≡ x ++ rest → length x ≡ min 512 (length t)
    → (x ≡ record_at s k) × (rest ≡ drop (512 * (k + 1)) s)
unfolding record_at
record_chunk s t x rest k d e n =
    let parts = rw d at (chunk_parts t x rest e n) in
    let next : 512 * (k + 1) ≡ 512 * k + 512 = omega arith in
    (parts.0, rw next (parts.1 ∙ drop-drop 512 (512 * k) s))
