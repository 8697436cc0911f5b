-- A verdict is that of the first test that is given: one law a step, and what an accepted input is. Assumes nothing.
use mathlib.Core.Path.{◌≡◌, refl, sym, ap, ◌∙◌}
use mathlib.Core.Bool.{Bool, true, false, not}
use mathlib.Core.List.{List, [], ◌∷◌, ◌++◌}
use Prim.Native.Nat.{ℕ, suc, ◌≤◌, ◌<◌}
use native.Mathlib.Omega.{arith}
use lib.ListN.{length}
use lib.Dec.{ltb}
use borrow.Author.Tests.{lt-ltb, le-ltb, eq-eqb, ne_eqb, ltb-true, ltb-false, eqb-true, not-false}
use Rattle.lists.specs.Lists.{least}
use Rattle.lists.specs.Bytes.{little}
use Rattle.lists.proofs.Bools.{by_test}
use Rattle.lists.proofs.Least.{least_front, least_front_none, least_back}
use Rattle.record.specs.Check.{check_of}
use Rattle.record.specs.Rules.{outside, broken}
use Rattle.record.specs.Refusals.{Test, first_fault, number_of, place_of, verdict, length_test, check_test, letters_test, header_test, entry_test, read_tests, read_verdict}
use Rattle.record.specs.declared.Reason.{Reason}
use Rattle.record.specs.declared.Reason.TheVariants.{Header, Rule}
use Rattle.record.proofs.ReasonNumbers.{number_from_one}

-- ---- a list of tests
pub none : verdict [] ≡ (0, 0)
unfolding verdict
none = refl

module _ (t : Test) (ts : List Test) where
  pub refuse : t.given ≡ true → verdict (t ∷ ts) ≡ (number_of t.reason, place_of t.reason)
  unfolding verdict
  refuse g = rw g refl

  pub pass : t.given ≡ false → verdict (t ∷ ts) ≡ verdict ts
  unfolding verdict
  pass g = rw g refl

  -- no test of an accepted input is given
  pub passed : verdict (t ∷ ts) ≡ (0, 0) → (t.given ≡ false) × (verdict ts ≡ (0, 0))
  unfolding verdict
  passed e =
      by_test t.given
      (λ g.
      let z : ◌≡◌ {A = ℕ × ℕ} (number_of t.reason, place_of t.reason) (0, 0) = rw g at e in
      absurd (omega (arith, number_from_one t.reason, ap (λ (p : ℕ × ℕ). p.0) z)))
      (λ g. (g, rw g at e))

-- a test whose place is the first fault
module _ (why : ℕ → Reason) (a b : ℕ) (p : ℕ → Bool) (ts : List Test) where
  pub refuse_first_fault : (h : ℕ) → h ≡ least a b p → h < b → verdict (first_fault why a b p ∷ ts) ≡ (number_of (why h), place_of (why h))
  refuse_first_fault h e l = rw e (refuse (first_fault why a b p) ts (lt-ltb (least a b p) b (omega arith)))

  pub pass_first_fault : b ≤ least a b p → verdict (first_fault why a b p ∷ ts) ≡ verdict ts
  pass_first_fault l = pass (first_fault why a b p) ts (le-ltb (least a b p) b l)

  pub passed_first_fault : verdict (first_fault why a b p ∷ ts) ≡ (0, 0) → (b ≤ least a b p) × (verdict ts ≡ (0, 0))
  passed_first_fault e = let q = passed (first_fault why a b p) ts e in (ltb-false (least a b p) b q.0, q.1)

-- a place is below x where that of each test is
pub place_none : (x : ℕ) → 0 < x → (verdict []).1 < x
unfolding verdict
place_none x h = h

pub place_test : (x : ℕ) (t : Test) (ts : List Test) → place_of t.reason < x → (verdict ts).1 < x → (verdict (t ∷ ts)).1 < x
unfolding verdict
place_test x t ts h r = by_test t.given (λ e. rw e h) (λ e. rw e r)

pub place_first_fault : (x : ℕ) (why : ℕ → Reason) (a b : ℕ) (p : ℕ → Bool) (ts : List Test) → ((k : ℕ) → place_of (why k) ≡ k)
    → b ≤ x → (verdict ts).1 < x → (verdict (first_fault why a b p ∷ ts)).1 < x
unfolding verdict
place_first_fault x why a b p ts w h r =
    by_test (ltb (least a b p) b) (λ e. rw (e, w (least a b p)) (omega (arith, ltb-true (least a b p) b e))) (λ e. rw e r)

-- tests after others
pub after_accepted : (ts us : List Test) → verdict ts ≡ (0, 0) → verdict (ts ++ us) ≡ verdict us
unfolding verdict
after_accepted [] us z = refl
after_accepted (t ∷ ts) us z = let q = passed t ts z in rw q.0 (after_accepted ts us q.1)

pub both_accepted : (ts us : List Test) → verdict (ts ++ us) ≡ (0, 0) → (verdict ts ≡ (0, 0)) × (verdict us ≡ (0, 0))
both_accepted [] us z = (none, z)
both_accepted (t ∷ ts) us z =
    let q = passed t (ts ++ us) z in
    let r = both_accepted ts us q.1 in
    (pass t ts q.0 ∙ r.0, r.1)

pub after_refused : (ts us : List Test) (k : ℕ) → (verdict ts).0 ≡ suc k → verdict (ts ++ us) ≡ verdict ts
unfolding verdict
after_refused [] us k e = absurd (omega arith)
after_refused (t ∷ ts) us k e =
    by_test t.given (λ g. rw g refl) (λ g. rw g (after_refused ts us k (rw g at e)))

-- ---- the verdict of a byte string, by the first test that fails
module _ (s : List ℕ) where
  pub read_length : (length s ≡ 512 → ⊥) → read_verdict s ≡ (1, 0)
  unfolding read_tests length_test
  read_length h = refuse (length_test s) _ (ap not (ne_eqb (length s) 512 h))

module _ (s : List ℕ) (l : length s ≡ 512) where
  past_length : (ts : List Test) → verdict (length_test s ∷ ts) ≡ verdict ts
  unfolding length_test
  past_length ts = pass (length_test s) ts (ap not (eq-eqb (length s) 512 l))

  pub read_check : (check_of s ≡ little 4 s 508 → ⊥) → read_verdict s ≡ (2, 0)
  unfolding read_tests check_test
  read_check h = past_length _ ∙ refuse (check_test s) _ (ap not (ne_eqb (check_of s) (little 4 s 508) h))

-- h is where one walk over the 28 header bytes stops
module _ (s : List ℕ) (l : length s ≡ 512) (k : check_of s ≡ little 4 s 508) (h : ℕ) (e : h ≡ least 0 28 (outside s)) where
  past_check : (ts : List Test) → verdict (length_test s ∷ check_test s ∷ ts) ≡ verdict ts
  unfolding check_test
  past_check ts = past_length s l _ ∙ pass (check_test s) ts (ap not (eq-eqb (check_of s) (little 4 s 508) k))

  pub read_letters : h < 4 → read_verdict s ≡ (3, 0)
  unfolding read_tests letters_test
  read_letters a =
      let f : least 0 4 (outside s) ≡ least 0 28 (outside s) = least_front 0 4 28 (outside s) (omega arith) (omega arith) (omega arith) in
      past_check _ ∙ refuse (letters_test s) _ (lt-ltb (least 0 4 (outside s)) 4 (omega arith))

  past_letters : 4 ≤ h → (ts : List Test) → verdict (length_test s ∷ check_test s ∷ letters_test s ∷ ts) ≡ verdict ts
  unfolding letters_test
  past_letters a ts =
      let f : least 0 4 (outside s) ≡ 4 = least_front_none 0 4 28 (outside s) (omega arith) (omega arith) (omega arith) in
      past_check _ ∙ pass (letters_test s) ts (le-ltb (least 0 4 (outside s)) 4 (omega arith))

  same : 4 ≤ h → least 4 28 (outside s) ≡ h
  same a = least_back 0 4 28 (outside s) (omega arith) (omega arith) (omega arith) ∙ sym e

  pub read_header : 4 ≤ h → h < 28 → read_verdict s ≡ (4, h)
  unfolding read_tests header_test
  read_header a b = past_letters a _ ∙ refuse_first_fault Header 4 28 (outside s) _ h (sym (same a)) b

  past_header : 28 ≤ h → (ts : List Test) → verdict (length_test s ∷ check_test s ∷ letters_test s ∷ header_test s ∷ ts) ≡ verdict ts
  unfolding header_test
  past_header a ts =
      let q : 28 ≤ least 4 28 (outside s) = omega (arith, same (omega arith)) in
      past_letters (omega arith) _ ∙ pass_first_fault Header 4 28 (outside s) ts q

  pub read_entry : 28 ≤ h → (i : ℕ) → i ≡ least 0 60 (broken s) → i < 60 → read_verdict s ≡ (5, i)
  unfolding read_tests entry_test
  read_entry a i f b = past_header a _ ∙ refuse_first_fault Rule 0 60 (broken s) [] i f b

  pub read_fine : 28 ≤ h → 60 ≤ least 0 60 (broken s) → read_verdict s ≡ (0, 0)
  unfolding read_tests entry_test
  read_fine a b = past_header a _ ∙ pass_first_fault Rule 0 60 (broken s) [] b ∙ none

-- the place is below x, 60 or more, where that of the tests that come after is
pub read_place : (s : List ℕ) (x : ℕ) (ts : List Test) → 60 ≤ x → (verdict ts).1 < x → (verdict (read_tests s ++ ts)).1 < x
unfolding read_tests length_test check_test letters_test header_test entry_test
read_place s x ts h r =
    let some : 0 < x = omega arith in
    let entries = place_first_fault x Rule 0 60 (broken s) ts (λ k. refl) h r in
    let header = place_first_fault x Header 4 28 (outside s) _ (λ k. refl) (omega arith) entries in
    place_test x (length_test s) _ some (place_test x (check_test s) _ some (place_test x (letters_test s) _ some header))

-- what an accepted byte string is
pub record Fine (s : List ℕ) : Type 0 where
  pub length : length s ≡ 512
  pub check : check_of s ≡ little 4 s 508
  pub letters : 4 ≤ least 0 4 (outside s)
  pub header : 28 ≤ least 4 28 (outside s)
  pub entries : 60 ≤ least 0 60 (broken s)

pub fine : (s : List ℕ) → read_verdict s ≡ (0, 0) → Fine s
unfolding read_tests length_test check_test letters_test header_test entry_test
fine s z =
    let a = passed (length_test s) _ z in
    let b = passed (check_test s) _ a.1 in
    let d = passed (letters_test s) _ b.1 in
    let f = passed_first_fault Header 4 28 (outside s) _ d.1 in
    let g = passed_first_fault Rule 0 60 (broken s) _ f.1 in
    record {
      length = eqb-true _ _ (not-false _ a.0);
      check = eqb-true _ _ (not-false _ b.0);
      letters = ltb-false _ _ d.0;
      header = f.0;
      entries = g.0;
    }
