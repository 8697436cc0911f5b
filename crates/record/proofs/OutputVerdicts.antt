-- The verdict of a block value, of a write and of what else is put in an output, by the first test that fails; and the output
-- piece by piece. Assumes nothing.
use mathlib.Core.Path.{◌≡◌, refl, sym, ap, ◌∙◌}
use mathlib.Core.Bool.{Bool, true, false, not}
use mathlib.Core.List.{List, [], ◌∷◌, ◌++◌, append-nil}
use Prim.Native.Nat.{ℕ, ◌+◌, ◌*◌, ◌≤◌, ◌<◌}
use native.Mathlib.Omega.{arith}
use lib.ListN.{length, get_or, drop, drop_of_length-le, get_or-append}
use lib.Dec.{eqb, ltb}
use borrow.Author.Tests.{eq-eqb, ne_eqb, eqb-true, ltb-true, ltb-false, not-false}
use Rattle.lists.specs.Lists.{pick, least, put}
use Rattle.lists.specs.Bytes.{bytes}
use Rattle.lists.proofs.Least.{least_from_lem, least_past, least_back, least_ext}
use Rattle.lists.proofs.JoinedPieces.{put_next, pieces_in, pieces_none, pieces_more, pieces_all}
use Rattle.lists.proofs.Little.{length_bytes}
use Rattle.lists.proofs.Bools.{by_test, end, ◌▹◌, each}
use Rattle.record.specs.Check.{check_of}
use Rattle.record.specs.Rules.{header_table, lows, highs, outside, broken}
use Rattle.record.specs.Layout.{no_entry, head_bytes, entry_bytes, entries_bytes, body, encoded}
use Rattle.record.specs.Refusals.{Test, number_of, meaning, verdict, header_test, entry_test, output_test, block_tests, write_tests, block_verdict, write_verdict, accepts, written}
use Rattle.record.specs.Promises.{Whole, Writes}
use Rattle.record.specs.Refusals.{Answer}
use Rattle.std.specs.Prelude.{Ok as Accepted, Err as Refused}
use Rattle.record.specs.declared.Block.{Block}
use Rattle.record.specs.declared.Reason.{Reason}
use Rattle.record.specs.declared.Reason.TheVariants.{Header, Rule, Output}
use Rattle.record.proofs.CheckByWord.{check_ext}
use Rattle.record.proofs.RecordBytes.{length_entry, length_head, length_entries, length_body, outside_head}
use Rattle.record.proofs.Verdicts.{refuse, pass, passed, refuse_first_fault, pass_first_fault, passed_first_fault, none, after_accepted, after_refused}
use Rattle.record.proofs.Answers.{number_above, refused_not}

-- ---- the tests of a block value
module _ (b : Block) where
  -- its letters are right
  pub letters_right : (k : ℕ) → k < 4 → outside (head_bytes b) k ≡ false
  unfolding outside head_bytes header_table lows highs
  letters_right = each (λ k. outside (head_bytes b) k ≡ false) 4 (refl ▹ refl ▹ refl ▹ refl ▹ end)

  -- one walk over its 28 header bytes stops at the first of bytes 4 to 27
  pub head_walk : least 0 28 (outside (head_bytes b)) ≡ least 4 28 (outside (encoded b))
  head_walk =
      let past : 4 ≤ least 0 28 (outside (head_bytes b))
      = least_past 0 28 (outside (head_bytes b)) 4 (omega arith) (λ k _ h. letters_right k h) in
      sym (least_back 0 4 28 (outside (head_bytes b)) (omega arith) (omega arith) past)
      ∙ least_ext 4 28 (outside (head_bytes b)) (outside (encoded b)) (λ k _ h. outside_head b k h)

  pub block_header : (h : ℕ) → h ≡ least 4 28 (outside (encoded b)) → h < 28 → block_verdict b ≡ (4, h)
  unfolding block_tests header_test
  block_header h e l = refuse_first_fault Header 4 28 (outside (encoded b)) _ h e l

  past_header : (ts : List Test) → 28 ≤ least 4 28 (outside (encoded b)) → verdict (header_test (encoded b) ∷ ts) ≡ verdict ts
  unfolding header_test
  past_header ts l = pass_first_fault Header 4 28 (outside (encoded b)) ts l

  pub block_entry : 28 ≤ least 4 28 (outside (encoded b)) → (i : ℕ) → i ≡ least 0 60 (broken (encoded b)) → i < 60 → block_verdict b ≡ (5, i)
  unfolding block_tests entry_test
  block_entry a i e l = past_header _ a ∙ refuse_first_fault Rule 0 60 (broken (encoded b)) _ i e l

  pub block_none : 28 ≤ least 4 28 (outside (encoded b)) → 60 ≤ least 0 60 (broken (encoded b)) → block_verdict b ≡ (0, 0)
  unfolding block_tests entry_test
  block_none a l = past_header _ a ∙ pass_first_fault Rule 0 60 (broken (encoded b)) [] l ∙ none

  -- what an accepted block is
  pub block_fine : block_verdict b ≡ (0, 0) → (28 ≤ least 4 28 (outside (encoded b))) × (60 ≤ least 0 60 (broken (encoded b)))
  unfolding block_tests header_test entry_test
  block_fine z =
      let a = passed_first_fault Header 4 28 (outside (encoded b)) _ z in
      let d = passed_first_fault Rule 0 60 (broken (encoded b)) _ a.1 in
      (a.0, d.0)

  -- a refusal 4 has place 4 to 27
  pub block_place : (block_verdict b).0 ≡ 4 → (4 ≤ (block_verdict b).1) × ((block_verdict b).1 < 28)
  block_place e =
      by_test (ltb (least 4 28 (outside (encoded b))) 28)
      (λ h.
      let q : least 4 28 (outside (encoded b)) < 28 = ltb-true _ _ h in
      rw (block_header _ refl q) (least_from_lem 4 28 (outside (encoded b)), q))
      (λ h.
      let q : 28 ≤ least 4 28 (outside (encoded b)) = ltb-false _ _ h in
      by_test (ltb (least 0 60 (broken (encoded b))) 60)
      (λ g. absurd (omega (arith, rw (block_entry q _ refl (ltb-true _ _ g)) at e)))
      (λ g. absurd (omega (arith, rw (block_none q (ltb-false _ _ g)) at e))))

-- ---- the outcome of an operation that tests a block value and then whether its output is right
abbrev pub put_verdict : Block → Bool → ℕ × ℕ
put_verdict b right = verdict (block_tests b ++ (output_test right ∷ []))

-- an output that held o and then holds o': the answer is the verdict, and the output is what is made or untouched
pub record Outcome (b : Block) (right : Bool) (made o : List ℕ) (a : Answer) (o' : List ℕ) : Type 0 where
  pub answer : meaning a ≡ put_verdict b right
  pub output : o' ≡ pick (accepts (put_verdict b right)) made o

module _ (b : Block) (right : Bool) where
  past_block : block_verdict b ≡ (0, 0) → put_verdict b right ≡ verdict (output_test right ∷ [])
  unfolding block_tests header_test entry_test
  past_block z = after_accepted (block_tests b) _ z

  -- what an accepted one is
  pub put_fine : put_verdict b right ≡ (0, 0) → (block_verdict b ≡ (0, 0)) × (right ≡ true)
  unfolding block_tests header_test entry_test output_test
  put_fine z =
      let a = passed_first_fault Header 4 28 (outside (encoded b)) _ z in
      let d = passed_first_fault Rule 0 60 (broken (encoded b)) _ a.1 in
      let g = passed (output_test right) _ d.1 in
      (block_none b a.0 d.0, not-false _ g.0)

  module _ (made o : List ℕ) where
    pub put_refused : (r : Reason) (a : Answer) → a ≡ Refused r → meaning a ≡ block_verdict b → Outcome b right made o a o
    put_refused r a e h =
        let v : (verdict (block_tests b)).0 ≡ number_of r = ap (λ (p : ℕ × ℕ). p.0) (sym h ∙ ap meaning e) in
        let f : put_verdict b right ≡ block_verdict b = after_refused (block_tests b) _ _ (v ∙ number_above r) in
        record { answer = h ∙ sym f; output = rw (f, v, refused_not r) refl }

    pub put_output : block_verdict b ≡ (0, 0) → right ≡ false → Outcome b right made o (Refused Output) o
    unfolding output_test
    put_output z h =
        let f : put_verdict b right ≡ (6, 0) = past_block z ∙ refuse (output_test right) [] (ap not h) in
        record { answer = sym f; output = rw f refl }

    pub put_done : block_verdict b ≡ (0, 0) → right ≡ true → (p : List ℕ) → p ≡ made → Outcome b right made o (Accepted tt) p
    unfolding output_test
    put_done z h p e =
        let f : put_verdict b right ≡ (0, 0) = past_block z ∙ pass (output_test right) [] (ap not h) ∙ none in
        record { answer = sym f; output = rw f e }

-- ---- the outcome of a write
module _ (b : Block) (o : List ℕ) (w : Whole b) where
  written_so : (a : Answer) (p : List ℕ) → Outcome b (eqb (length o) 512) (encoded b) o a p → Writes b o a p
  unfolding write_tests written
  written_so a p x = record { whole = w; answer = x.answer; output = x.output }

  pub write_refused : (r : Reason) (a : Answer) → a ≡ Refused r → meaning a ≡ block_verdict b → Writes b o a o
  write_refused r a e h = written_so a o (put_refused b _ _ o r a e h)

  pub write_output : block_verdict b ≡ (0, 0) → (length o ≡ 512 → ⊥) → Writes b o (Refused Output) o
  write_output z h = written_so _ o (put_output b _ _ o z (ne_eqb (length o) 512 h))

  pub write_done : block_verdict b ≡ (0, 0) → length o ≡ 512 → (p : List ℕ) → p ≡ encoded b → Writes b o (Accepted tt) p
  write_done z h p e = written_so _ p (put_done b _ _ o z (eq-eqb (length o) 512 h) p e)

-- what an accepted write is
pub write_fine : (b : Block) (o : List ℕ) → write_verdict b o ≡ (0, 0) → (block_verdict b ≡ (0, 0)) × (length o ≡ 512)
unfolding write_tests
write_fine b o z = let f = put_fine b _ z in (f.0, eqb-true _ _ f.1)

-- ---- the output piece by piece

-- a header of 28 bytes and 60 entries of 8 put in place
pub put_entries : (head entries o : List ℕ) → length head ≡ 28 → length entries ≡ 480 → put (head ++ drop 28 o) 28 entries ≡ head ++ entries ++ drop 508 o
put_entries head entries o h e = put_next head entries o 28 h ∙ rw e refl

-- the check put behind the 508 bytes of a body
pub put_seal : (bs o : List ℕ) → length bs ≡ 508 → length o ≡ 512
    → put (bs ++ drop 508 o) 508 (bytes 4 (check_of (bs ++ drop 508 o))) ≡ bs ++ bytes 4 (check_of bs)
put_seal bs o n l =
    let k : check_of (bs ++ drop 508 o) ≡ check_of bs
    = check_ext _ bs (λ j h. get_or-append bs (drop 508 o) 0 j (omega arith)) in
    let e : drop 512 o ≡ [] = drop_of_length-le o {i = 512} (omega arith) in
    rw k (put_next bs (bytes 4 (check_of bs)) o 508 n ∙ rw (length_bytes, e, append-nil) refl)

module _ (b : Block) (o : List ℕ) where
  pub put_body : put (head_bytes b ++ drop 28 o) 28 (entries_bytes b) ≡ body b ++ drop 508 o
  unfolding body
  put_body = put_entries (head_bytes b) (entries_bytes b) o (length_head b) (length_entries b)

  pub put_check : length o ≡ 512 → put (body b ++ drop 508 o) 508 (bytes 4 (check_of (body b ++ drop 508 o))) ≡ encoded b
  unfolding encoded
  put_check l = put_seal (body b) o (length_body b) l

-- a header put in an output, then the entries, then the check
pub put_record : (b : Block) (o head with-head with_entries : List ℕ) → length o ≡ 512 → head ≡ head_bytes b
    → with-head ≡ head ++ drop 28 o → with_entries ≡ put with-head 28 (entries_bytes b)
    → put with_entries 508 (bytes 4 (check_of with_entries)) ≡ encoded b
put_record b o head with-head with_entries l h d e = rw (e, d, h, put_body b o) (put_check b o l)

-- the first i entries put behind the header of o, and the rest of o
abbrev pub entries_in : Block → List ℕ → ℕ → List ℕ
entries_in b o i = pieces_in 8 28 (λ j. entry_bytes (get_or b.entries j no_entry)) o i

module _ (b : Block) (o : List ℕ) where
  pub entries_none : o ≡ entries_in b o 0
  entries_none = pieces_none 8 28 _ o

  pub entries_more : (i : ℕ) → length o ≡ 512 → put (entries_in b o i) (28 + 8 * i) (entry_bytes (get_or b.entries i no_entry)) ≡ entries_in b o (i + 1)
  entries_more i l = pieces_more 8 28 _ o (λ j. length_entry _) i _ refl (omega arith)

  pub entries_all : entries_in b o 60 ≡ put o 28 (entries_bytes b)
  unfolding entries_bytes
  entries_all = pieces_all 8 28 _ o (λ j. length_entry _) 60
