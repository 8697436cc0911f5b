-- `record::check::check_of` meets its contract: after k words the two sums are those of the definition. Assumes nothing.
use Rattle.std.proofs.Common.{rules, ℕ, ◌≡◌, ◌<◌, ◌+◌, ◌*◌, List, [], length, take, get_or, refl, ap, ◌∙◌, arith}
use native.Mathlib.Nat.{add-zero}
use lib.Seq.{length-take-le}
use Rattle.std.specs.Simd.{first_chunks}
use Rattle.record.specs.Check.{sum_a, sum_b, check_of}
use Rattle.record.proofs.CheckByWord.{sum_a_more, sum_b_more, chunk_byte}
use Rattle.record.proofs.check.check_of.Goals as goal

pub loop-word-init : goal.loop-word-init
unfolding sum_a sum_b
loop-word-init c = (search rules, search rules, refl, refl)

pub loop-word-preserved : goal.loop-word-preserved
loop-word-preserved c =
    let s = c.args.s.now in
    let k = c.loop-word.word-index in
    let long : length (take 508 s) ≡ 508 = length-take-le 508 s c.requires in
    let words : c.as_chunks.result.0.now ≡ first_chunks 2 254 (take 508 s) = rw long at c.as_chunks.ensures.front in
    let few : k < 254 = omega (arith, c.loop-word-test.true, c.as_chunks.ensures.front_len, long) in
    let byte : (j : ℕ) → j < 2 → get_or (get_or c.as_chunks.result.0.now k []) j 0 ≡ get_or s (2 * k + j) 0
    = λ j h. ap (λ (x : List (List ℕ)). get_or (get_or x k []) j 0) words ∙ chunk_byte s k few j h in
    let word : c.from.result ≡ get_or s (2 * k) 0 + 256 * get_or s (2 * k + 1) 0
    = omega (arith, c.from.ensures, c.from_le_bytes.ensures, rw add-zero at (byte 0 (omega arith)), byte 1 (omega arith)) in
    (search rules, search rules, rw sum_a_more (cc), rw (sum_b_more, sum_a_more) (cc))

pub returns : goal.returns
unfolding check_of
returns c =
    let long : length (take 508 c.args.s.now) ≡ 508 = length-take-le 508 c.args.s.now c.requires in
    let e : c.loop-word.word-index ≡ 254
    = omega (arith, c.loop-word-test.false, c.loop-word.auto.word-index-end, c.as_chunks.ensures.front_len, long) in
    rw (c.loop-word.invariant.2, c.loop-word.invariant.3, e) refl
