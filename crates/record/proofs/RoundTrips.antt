-- Reading and writing undo each other. Assumes nothing.
use mathlib.Core.Path.{◌≡◌, refl, sym, ◌∙◌}
use mathlib.Core.Bool.{false}
use mathlib.Core.List.{List}
use Prim.Native.Nat.{ℕ, ◌+◌, ◌-◌, ◌/◌, ◌%◌, ◌≤◌, ◌<◌}
use native.Mathlib.Nat.{add-zero}
use native.Mathlib.Omega.{arith}
use lib.ListN.{length, get_or}
use lib.Seq.{ext_get_or}
use lib.Dec.{ltb}
use borrow.Author.Tests.{ltb-true, ltb-false}
use Rattle.lists.specs.Lists.{least}
use Rattle.lists.specs.Bytes.{little, bytes}
use Rattle.lists.proofs.Bools.{by_test, or_left, or_right, end, ◌▹◌, each}
use Rattle.lists.proofs.TableByIndex.{is_tab, get_or_tab}
use Rattle.lists.proofs.Least.{least_below, least_ext, exists_not}
use Rattle.lists.proofs.Little.{little_ext, little_bytes, bytes_little}
use Rattle.record.specs.Check.{check_of}
use Rattle.record.specs.Rules.{header_table, lows, highs, outside, at, entry_byte, wrong_byte, broken}
use Rattle.record.specs.Layout.{no_entry, entry_at, decoded, head_bytes, entry_bytes, body, encoded}
use Rattle.record.specs.inside.EntryBytes.{byte_of}
use Rattle.record.specs.Refusals.{read_verdict, block_verdict, write_verdict, written}
use Rattle.record.specs.Promises.{Reads, Writes, ByteString, Whole}
use Rattle.record.specs.Refusals.{Answer}
use Rattle.std.specs.Prelude.{Result, Ok as Accepted}
use Rattle.record.specs.declared.Block.{Block}
use Rattle.record.specs.declared.Reason.{Reason}
use Rattle.record.proofs.CheckByWord.{check_ext}
use Rattle.record.proofs.EntryRules.{last_two}
use Rattle.record.proofs.RecordBytes.{length_encoded, head_byte, entry_byte_lem, check_same, check_byte, check_stored, outside_head}
use Rattle.record.proofs.Verdicts.{Fine, fine, read_fine}
use Rattle.record.proofs.OutputVerdicts.{head_walk, block_none, block_fine, write_fine, write_done}
use Rattle.record.proofs.Answers.{result_one, accepted_so, write_one}

-- ---- from a block to its record and back
module _ (b : Block) where
  entry_back : (i : ℕ) → i < 60 → entry_at (encoded b) i ≡ get_or b.entries i no_entry
  unfolding entry_at entry_bytes
  entry_back i h =
      rw (
        entry_byte_lem b i 0 h (omega arith),
        entry_byte_lem b i 1 h (omega arith),
        entry_byte_lem b i 2 h (omega arith),
        entry_byte_lem b i 3 h (omega arith),
        entry_byte_lem b i 4 h (omega arith),
        entry_byte_lem b i 5 h (omega arith),
      )
      refl

  number_back : b.number < 4294967296 → little 4 (encoded b) 12 ≡ b.number
  unfolding head_bytes bytes
  number_back h =
      let same : (k : ℕ) → k < 4 → get_or (head_bytes b) (12 + k) 0 ≡ get_or (bytes 4 b.number) (0 + k) 0
      = each _ 4 (refl ▹ refl ▹ refl ▹ refl ▹ end) in
      little_ext 4 (encoded b) (bytes 4 b.number) 12 0 (λ k q. head_byte b (12 + k) (omega arith) ∙ same k q)
      ∙ little_bytes 4 b.number h

  pub decoded_encoded : Whole b → decoded (encoded b) ≡ b
  unfolding decoded head_bytes
  decoded_encoded v =
      rw (
        head_byte b 4 (omega arith),
        head_byte b 5 (omega arith),
        head_byte b 6 (omega arith),
        head_byte b 7 (omega arith),
        head_byte b 8 (omega arith),
        head_byte b 9 (omega arith),
        head_byte b 10 (omega arith),
        number_back v.number,
        ← is_tab 60 (entry_at (encoded b)) no_entry b.entries v.entries (λ i q. sym (entry_back i q)),
      )
      refl

  -- the record of an accepted block is accepted, and says the block
  pub read_encoded : Whole b → block_verdict b ≡ (0, 0) → (read_verdict (encoded b) ≡ (0, 0)) × (decoded (encoded b) ≡ b)
  read_encoded v z =
      let f = block_fine b z in
      let same : least 0 28 (outside (head_bytes b)) ≡ least 0 28 (outside (encoded b))
      = least_ext 0 28 (outside (head_bytes b)) (outside (encoded b)) (λ k _ h. outside_head b k h) in
      let stored : check_of (encoded b) ≡ little 4 (encoded b) 508 = check_same b ∙ sym (check_stored b) in
      let past : 28 ≤ least 0 28 (outside (encoded b)) = omega (arith, same, head_walk b, f.0) in
      let r : read_verdict (encoded b) ≡ (0, 0) = read_fine (encoded b) (length_encoded b) stored _ refl past f.1 in
      (r, decoded_encoded v)

-- ---- from a record to its block and back
module _ (s : List ℕ) (u : ByteString s) (f : Fine s) where
  inside : (j : ℕ) → j < 28 → outside s j ≡ false
  inside j h =
      by_test (ltb j 4)
      (λ e. let q : j < 4 = ltb-true j 4 e in least_below 0 4 (outside s) j (omega arith) (omega (arith, f.letters)) q)
      (λ e. let q : 4 ≤ j = ltb-false j 4 e in least_below 4 28 (outside s) j q (omega (arith, f.header)) h)

  -- a header byte that has one value alone
  fixed : (j : ℕ) → j < 28 → get_or lows j 0 ≡ get_or highs j 0 → get_or lows j 0 ≡ get_or s j 0
  unfolding outside
  fixed j h e =
      let low = ltb (get_or s j 0) (get_or lows j 0) in
      let high = ltb (get_or highs j 0) (get_or s j 0) in
      let a : get_or lows j 0 ≤ get_or s j 0 = ltb-false _ _ (or_left low high (inside j h)) in
      let b : get_or s j 0 ≤ get_or highs j 0 = ltb-false _ _ (or_right low high (inside j h)) in
      omega arith

  number_byte : (k : ℕ) → k < 4 → get_or (bytes 4 (little 4 s 12)) k 0 ≡ get_or s (12 + k) 0
  number_byte k h = bytes_little 4 s 12 u.byte k h

  head_same : (j : ℕ) → j < 28 → get_or (head_bytes (decoded s)) j 0 ≡ get_or s j 0
  unfolding head_bytes decoded header_table lows highs bytes
  head_same =
      each (λ j. get_or (head_bytes (decoded s)) j 0 ≡ get_or s j 0) 28
      (fixed 0 (omega arith) refl ▹ fixed 1 (omega arith) refl ▹ fixed 2 (omega arith) refl ▹ fixed 3 (omega arith) refl
      ▹ refl ▹ refl ▹ refl ▹ refl ▹ refl ▹ refl ▹ refl ▹ fixed 11 (omega arith) refl
      ▹ number_byte 0 (omega arith) ▹ number_byte 1 (omega arith) ▹ number_byte 2 (omega arith) ▹ number_byte 3 (omega arith)
      ▹ fixed 16 (omega arith) refl ▹ fixed 17 (omega arith) refl ▹ fixed 18 (omega arith) refl ▹ fixed 19 (omega arith) refl
      ▹ fixed 20 (omega arith) refl ▹ fixed 21 (omega arith) refl ▹ fixed 22 (omega arith) refl ▹ fixed 23 (omega arith) refl
      ▹ fixed 24 (omega arith) refl ▹ fixed 25 (omega arith) refl ▹ fixed 26 (omega arith) refl ▹ fixed 27 (omega arith) refl
      ▹ end)

  kept : (i : ℕ) → i < 60 → (k : ℕ) → k < 8 → wrong_byte (get_or s 4 0) i (entry_byte s i) k ≡ false
  unfolding broken
  kept i h k g =
      exists_not 0 8 _ (least_below 0 60 (broken s) i (omega arith) (omega (arith, f.entries)) h) k (omega arith) g

  entry_same : (i : ℕ) → i < 60 → (k : ℕ) → k < 8 → byte_of (entry_at s i) k ≡ entry_byte s i k
  unfolding entry_bytes entry_at
  entry_same i h =
      let z = last_two (get_or s 4 0) i (entry_byte s i) (kept i h 6 (omega arith)) (kept i h 7 (omega arith)) in
      each (λ k. byte_of (entry_at s i) k ≡ entry_byte s i k) 8
      (rw add-zero refl ▹ refl ▹ refl ▹ refl ▹ refl ▹ refl ▹ sym z.0 ▹ sym z.1 ▹ end)

  entry_of : (i : ℕ) → i < 60 → get_or (decoded s).entries i no_entry ≡ entry_at s i
  unfolding decoded
  entry_of i h = get_or_tab 60 (entry_at s) i no_entry h

  -- the first 508 bytes of the decoded block's record
  body_same : (j : ℕ) → j < 508 → get_or (encoded (decoded s)) j 0 ≡ get_or s j 0
  body_same j h =
      by_test (ltb j 28) (λ e. let q : j < 28 = ltb-true j 28 e in head_byte (decoded s) j q ∙ head_same j q)
      (λ e.
      let q : 28 ≤ j = ltb-false j 28 e in
      let i = (j - 28) / 8 in
      let k = (j - 28) % 8 in
      let p : i < 60 = omega arith in
      let m : at i + k ≡ j = omega arith in
      let x : entry_byte (encoded (decoded s)) i k ≡ entry_byte s i k
      = entry_byte_lem (decoded s) i k p (omega arith) ∙ rw (entry_of i p) (entry_same i p k (omega arith)) in
      rw m at x)

  check_is : check_of (body (decoded s)) ≡ little 4 s 508
  check_is = sym (check_same (decoded s)) ∙ check_ext (encoded (decoded s)) s body_same ∙ f.check

  check_same_byte : (k : ℕ) → k < 4 → get_or (encoded (decoded s)) (508 + k) 0 ≡ get_or s (508 + k) 0
  check_same_byte k h = check_byte (decoded s) k ∙ rw check_is (bytes_little 4 s 508 u.byte k h)

  pub encoded_decoded : encoded (decoded s) ≡ s
  encoded_decoded =
      ext_get_or 0 (encoded (decoded s)) s (length_encoded (decoded s) ∙ sym f.length)
      (λ k h.
      by_test (ltb k 508) (λ e. body_same k (ltb-true k 508 e))
      (λ e.
      let q : 508 ≤ k = ltb-false k 508 e in
      let m : 508 + (k - 508) ≡ k = omega arith in
      rw m at (check_same_byte (k - 508) (omega (arith, length_encoded (decoded s))))))

  -- the block of an accepted record is accepted
  pub block_decoded : block_verdict (decoded s) ≡ (0, 0)
  block_decoded = block_none (decoded s) (rw encoded_decoded f.header) (rw encoded_decoded f.entries)

-- ---- the two operations, by what they promise
written_is : (b : Block) (o : List ℕ) → write_verdict b o ≡ (0, 0) → written b o ≡ encoded b
unfolding written
written_is b o z = rw z refl

-- what an accepted reading gives: the bytes are accepted, the block is theirs, and it is accepted too
module _ (s : List ℕ) (b : Block) (x : Reads s (Accepted b)) where
  pub reading_fine : read_verdict s ≡ (0, 0)
  reading_fine = sym x.answer

  pub reading_decoded : b ≡ decoded s
  reading_decoded = x.block

  pub reading_accepted : block_verdict (decoded s) ≡ (0, 0)
  reading_accepted = block_decoded s x.bytes (fine s reading_fine)

-- whatever writing an accepted block leaves in the output, reading it accepts and gives the block back
pub read_written : (b : Block) (o p : List ℕ) (a : Answer) (r : Result Block Reason) → Writes b o a p → a ≡ Accepted tt → Reads p r → r ≡ Accepted b
read_written b o p a r w e x =
    let z : write_verdict b o ≡ (0, 0) = accepted_so a e w.answer in
    let q : p ≡ encoded b = w.output ∙ written_is b o z in
    let t = read_encoded b w.whole (write_fine b o z).0 in
    let u : Reads (encoded b) r = rw q at x in
    result_one b r (Accepted b) (u.answer ∙ t.0) (rw t.1 at u.block) refl

-- whatever reading an accepted byte string gives, writing it to 512 bytes accepts and gives the byte string back
pub written_read : (s o p : List ℕ) (a : Answer) (b : Block) → Reads s (Accepted b) → length o ≡ 512
    → Writes b o a p → (a ≡ Accepted tt) × (p ≡ s)
written_read s o p a b x l w =
    let v : Writes (decoded s) o a p = rw (reading_decoded s b x) at w in
    let same = encoded_decoded s x.bytes (fine s (reading_fine s b x)) in
    let d = write_done (decoded s) o v.whole (reading_accepted s b x) l s (sym same) in
    write_one (decoded s) o a (Accepted tt) p s v d
