-- What the doors answer and leave: a refused record's refusal, or that of the tests that come after the record's. Assumes
-- nothing.
use Prim.Native.Nat.{ℕ, ◌-◌, ◌≤◌, ◌<◌}
use mathlib.Core.Path.{◌≡◌, refl, sym, ap, ◌∙◌}
use mathlib.Core.Bool.{Bool}
use mathlib.Core.List.{List, [], ◌∷◌, ◌++◌}
use native.Mathlib.Omega.{arith}
use Rattle.lists.specs.Lists.{pick}
use Rattle.record.specs.Layout.{decoded}
use Rattle.std.specs.Prelude.{Result, Ok as Accepted, Err as Refused}
use Rattle.record.specs.Refusals.{Test, number_of, place_of, meaning, verdict, accepts, length_test, check_test, letters_test, header_test, entry_test, output_test, read_tests, block_tests}
use Rattle.record.specs.Promises.{Reads}
use Rattle.record.specs.declared.Block.{Block}
use Rattle.record.specs.declared.Reason.{Reason}
use Rattle.record.specs.declared.Reason.TheVariants.{Latency}
use Rattle.record.proofs.Verdicts.{place_none, place_test, place_first_fault, after_accepted, after_refused, read_place}
use Rattle.record.proofs.Answers.{number_above, refused_not}
use Rattle.record.proofs.RoundTrips.{reading_fine, reading_accepted}
use Rattle.play.specs.Refusals.{wrong, list_test, latency_test, list_tests}
use Rattle.exports.specs.Doors.{coded, Door}

-- ---- places have 16 bits
pub none_place : (verdict []).1 < 65536
none_place = place_none 65536 (omega arith)

pub output_place : (right : Bool) (ts : List Test) → (verdict ts).1 < 65536 → (verdict (output_test right ∷ ts)).1 < 65536
unfolding output_test
output_place right ts h = place_test 65536 (output_test right) ts (omega arith) h

pub list_place : (b : Block) (l : List ℕ) → b.n ≤ 255 → (verdict (list_tests b l)).1 < 65536
unfolding list_tests list_test latency_test
list_place b l h =
    place_test 65536 (list_test b l) _ (omega arith)
    (place_first_fault 65536 Latency 0 b.n (wrong b l) [] (λ k. refl) (omega arith) none_place)

-- a record that is read has such a place
pub reading_place : (s : List ℕ) (q : Reason) → Reads s (Refused q) → place_of q < 65536
unfolding read_tests length_test check_test letters_test header_test entry_test
reading_place s q x =
    let e : (verdict (read_tests s)).1 ≡ place_of q = ap (λ (v : ℕ × ℕ). v.1) (sym x.answer) in
    omega (arith, e, read_place s 65536 [] (omega arith) none_place)

module _ (s : List ℕ) (rest : List Test) where
  -- ---- a record that is refused
  module _ (q : Reason) (x : Reads s (Refused q)) where
    refused_verdict : verdict (read_tests s ++ rest) ≡ (number_of q, place_of q)
    refused_verdict =
        let n : (verdict (read_tests s)).0 ≡ number_of q = ap (λ (v : ℕ × ℕ). v.0) (sym x.answer) in
        after_refused (read_tests s) rest (number_of q - 1) (n ∙ number_above q) ∙ sym x.answer

    pub door_refused : {A : Type 0} (made o : A) (k : ℕ) → k ≡ coded (number_of q, place_of q) → Door s rest made o k o
    door_refused made o k h =
        record { bytes = x.bytes; answer = rw refused_verdict h; output = rw (refused_verdict, refused_not q) refl }

  -- ---- a record that is accepted
  module _ (b : Block) (x : Reads s (Accepted b)) where
    -- its block's own tests are passed, as the record's are
    after_record : verdict (read_tests s ++ rest) ≡ verdict rest
    unfolding read_tests length_test check_test letters_test header_test entry_test
    after_record = after_accepted (read_tests s) rest (reading_fine s b x)

    after_block : verdict (block_tests (decoded s) ++ rest) ≡ verdict rest
    unfolding block_tests header_test entry_test
    after_block = after_accepted (block_tests (decoded s)) rest (reading_accepted s b x)

    module _ {B : Type 0} (a : Result B Reason) (h : meaning a ≡ verdict (block_tests (decoded s) ++ rest)) where
      pub answer_place : (verdict rest).1 < 65536 → (meaning a).1 < 65536
      answer_place l = rw (h, after_block) l

      pub door_answer : (k : ℕ) → k ≡ coded (meaning a) → k ≡ coded (verdict (read_tests s ++ rest))
      door_answer k f = f ∙ ap coded (h ∙ after_block ∙ sym after_record)

      pub door_done : {A : Type 0} (made o o' : A) (k : ℕ) → k ≡ coded (meaning a)
          → o' ≡ pick (accepts (verdict (block_tests (decoded s) ++ rest))) made o → Door s rest made o k o'
      door_done made o o' k f g =
          record { bytes = x.bytes; answer = door_answer k f; output = g ∙ (rw (after_block, after_record) refl) }
