-- Each door's promise leaves one outcome, and gives number and place back; and a door that accepts is the operation on the
-- block of the bytes, accepted, so that what is proved of the operations holds of what it wrote. Assumes nothing.
use Prim.Native.Nat.{ℕ, ◌/◌, ◌%◌, ◌<◌}
use mathlib.Core.Path.{◌≡◌, refl, sym, ap, ◌∙◌}
use mathlib.Core.List.{List, [], ◌++◌}
use native.Mathlib.Omega.{arith}
use Rattle.lists.proofs.OneOutcome.{one_value, one_outcome}
use Rattle.record.specs.Layout.{decoded}
use Rattle.record.specs.Refusals.{
  Test,
  verdict,
  length_test,
  check_test,
  letters_test,
  header_test,
  entry_test,
  read_tests,
  block_tests,
  write_tests,
  read_verdict,
  written,
}
use Rattle.record.specs.Promises.{Writes}
use Rattle.std.specs.Prelude.{Ok as Accepted}
use Rattle.record.proofs.BlockValues.{decoded_whole}
use Rattle.record.proofs.RoundTrips.{block_decoded}
use Rattle.record.proofs.Verdicts.{both_accepted, after_accepted, read_place, fine}
use Rattle.analysis.specs.Result.{analyse_tests, window_tests, analysed, tabled}
use Rattle.analysis.specs.Promises.{Analyses, WritesWindows}
use Rattle.play.specs.Refusals.{list_tests, play_tests, length_tests}
use Rattle.play.specs.Promises.{played, Plays, GivesPlayLength}
use Rattle.exports.specs.Doors.{coded, Door, record_room, windows_room, play_room, ChecksBytes, RecodesBytes, AnalysesBytes, WindowsBytes, PlaysBytes, PlayLengthBytes}
use Rattle.exports.proofs.DoorVerdicts.{none_place, output_place, list_place}

-- ---- one outcome
door_one : {A : Type 0} (s : List ℕ) (more : List Test) (made o : A) (x y : ℕ) (p q : A) → Door s more made o x p → Door s more made o y q → (x ≡ y) × (p ≡ q)
door_one s more made o x y p q u v = one_outcome x y p q u.answer u.output v.answer v.output

module _ (s : List ℕ) (x y : ℕ) where
  pub check_one : ChecksBytes s x → ChecksBytes s y → x ≡ y
  check_one u v = one_value x y u.answer v.answer

  module _ (o p q : List ℕ) where
    pub recode_one : RecodesBytes s o x p → RecodesBytes s o y q → (x ≡ y) × (p ≡ q)
    recode_one = door_one s _ _ o x y p q

    pub analyse_bytes_one : AnalysesBytes s o x p → AnalysesBytes s o y q → (x ≡ y) × (p ≡ q)
    analyse_bytes_one = door_one s _ _ o x y p q

    pub windows_bytes_one : WindowsBytes s o x p → WindowsBytes s o y q → (x ≡ y) × (p ≡ q)
    windows_bytes_one = door_one s _ _ o x y p q

    pub play_bytes_one : (l : List ℕ) → PlaysBytes s l o x p → PlaysBytes s l o y q → (x ≡ y) × (p ≡ q)
    play_bytes_one l = door_one s _ _ o x y p q

  pub play_length_bytes_one : (l : List ℕ) (o p q : ℕ) → PlayLengthBytes s l o x p → PlayLengthBytes s l o y q → (x ≡ y) × (p ≡ q)
  play_length_bytes_one l o p q = door_one s _ _ o x y p q

-- ---- number and place come back from the one number
coded_back : (v : ℕ × ℕ) → v.1 < 65536 → (coded v / 65536 ≡ v.0) × (coded v % 65536 ≡ v.1)
unfolding coded
coded_back v h = (omega arith, omega arith)

-- what is given back is the verdict v
abbrev pub Back : ℕ → ℕ × ℕ → Type 0
Back r v = (r / 65536 ≡ v.0) × (r % 65536 ≡ v.1)

door_back : {A : Type 0} (s : List ℕ) (more : List Test) (made o : A) (r : ℕ) (p : A) → (verdict more).1 < 65536 → Door s more made o r p
    → Back r (verdict (read_tests s ++ more))
door_back s more made o r p h u = rw u.answer (coded_back (verdict (read_tests s ++ more)) (read_place s 65536 more (omega arith) h))

module _ (s : List ℕ) (r : ℕ) where
  pub check_back : ChecksBytes s r → Back r (read_verdict s)
  unfolding read_tests length_test check_test letters_test header_test entry_test
  check_back u = rw u.answer (coded_back (read_verdict s) (read_place s 65536 [] (omega arith) none_place))

  module _ (o p : List ℕ) where
    pub recode_back : RecodesBytes s o r p → Back r (verdict (read_tests s ++ record_room o))
    recode_back = door_back s _ _ o r p (output_place _ [] none_place)

    pub analyse_back : AnalysesBytes s o r p → Back r (verdict (read_tests s ++ record_room o))
    analyse_back = door_back s _ _ o r p (output_place _ [] none_place)

    pub windows_back : WindowsBytes s o r p → Back r (verdict (read_tests s ++ windows_room s o))
    windows_back = door_back s _ _ o r p (output_place _ [] none_place)

    pub play_back : (l : List ℕ) → PlaysBytes s l o r p → Back r (verdict (read_tests s ++ play_room s l o))
    play_back l u = door_back s _ _ o r p (output_place _ _ (list_place (decoded s) l (decoded_whole s u.bytes).n)) u

  pub play_length_back : (l : List ℕ) (o p : ℕ) → PlayLengthBytes s l o r p → Back r (verdict (read_tests s ++ list_tests (decoded s) l))
  play_length_back l o p u = door_back s _ _ o r p (list_place (decoded s) l (decoded_whole s u.bytes).n) u

-- ---- a door that accepts
module _ {A : Type 0} (s : List ℕ) (more : List Test) (made o p : A) (u : Door s more made o 0 p) where
  no_refusal : verdict (read_tests s ++ more) ≡ (0, 0)
  unfolding coded
  no_refusal =
      let v : ℕ × ℕ = verdict (read_tests s ++ more) in
      let number : v.0 ≡ 0 = omega (arith, u.answer) in
      let place : v.1 ≡ 0 = omega (arith, u.answer) in
      ap (λ (x : ℕ). (x, v.1)) number ∙ ap (λ (y : ℕ). (0, y)) place

  both_parts : (read_verdict s ≡ (0, 0)) × (verdict more ≡ (0, 0))
  unfolding read_tests length_test check_test letters_test header_test entry_test
  both_parts = both_accepted (read_tests s) more no_refusal

  -- the block's own tests are passed too
  block_passes : verdict (block_tests (decoded s) ++ more) ≡ (0, 0)
  unfolding block_tests header_test entry_test
  block_passes = after_accepted (block_tests (decoded s)) more (block_decoded s u.bytes (fine s both_parts.0)) ∙ both_parts.1

  is_made : p ≡ made
  is_made = u.output ∙ (rw no_refusal refl)

-- IT IS THE OPERATION ON THE BLOCK OF THE BYTES, ACCEPTED
module _ (s : List ℕ) where
  module _ (o p : List ℕ) where
    pub recode_opens : RecodesBytes s o 0 p → Writes (decoded s) o (Accepted tt) p
    unfolding write_tests written
    recode_opens u =
        let z = block_passes s _ _ o p u in
        record { whole = decoded_whole s u.bytes; answer = sym z; output = is_made s _ _ o p u ∙ (rw z refl) }

    pub analyse_opens : AnalysesBytes s o 0 p → Analyses (decoded s) o (Accepted tt) p
    unfolding analyse_tests analysed
    analyse_opens u =
        let z = block_passes s _ _ o p u in
        record { whole = decoded_whole s u.bytes; answer = sym z; output = is_made s _ _ o p u ∙ (rw z refl) }

    pub windows_opens : WindowsBytes s o 0 p → WritesWindows (decoded s) o (Accepted tt) p
    unfolding window_tests tabled
    windows_opens u =
        let z = block_passes s _ _ o p u in
        record { whole = decoded_whole s u.bytes; answer = sym z; output = is_made s _ _ o p u ∙ (rw z refl) }

    pub play_opens : (l : List ℕ) → PlaysBytes s l o 0 p → Plays (decoded s) l o (Accepted tt) p
    unfolding play_tests played
    play_opens l u =
        let z = block_passes s _ _ o p u in
        record { whole = decoded_whole s u.bytes; answer = sym z; output = is_made s _ _ o p u ∙ (rw z refl) }

  pub play_length_opens : (l : List ℕ) (o p : ℕ) → PlayLengthBytes s l o 0 p → GivesPlayLength (decoded s) l (Accepted p)
  unfolding length_tests
  play_length_opens l o p u =
      let z = block_passes s _ _ o p u in
      record { whole = decoded_whole s u.bytes; answer = sym z; cycles = is_made s _ _ o p u }
