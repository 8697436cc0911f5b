-- The record of a block, byte by byte. Assumes nothing.
use mathlib.Core.Path.{◌≡◌, refl, sym, ap, ◌∙◌}
use Prim.Native.Nat.{ℕ, ◌+◌, ◌*◌, ◌<◌}
use native.Mathlib.Nat.{add_assoc, zero-add}
use native.Mathlib.Omega.{arith}
use lib.ListN.{length, get_or, length-append, get_or-append}
use lib.Dec.{ltb}
use lib.Seq.{get_or-append-add}
use Rattle.lists.specs.Lists.{exists}
use Rattle.lists.specs.Bytes.{little, bytes}
use Rattle.lists.proofs.Least.{least_ext}
use Rattle.lists.proofs.JoinedPieces.{length_joined, get_or_joined}
use Rattle.lists.proofs.Little.{length_bytes, little_ext, little_bytes}
use Rattle.record.specs.Check.{check_of}
use Rattle.record.specs.Rules.{at, outside, wrong_byte, broken, entry_byte}
use Rattle.record.specs.Layout.{no_entry, head_bytes, entry_bytes, entries_bytes, body, encoded}
use Rattle.record.specs.inside.EntryBytes.{byte_of, wrong_entry}
use Rattle.record.specs.declared.Block.{Block}
use Rattle.record.specs.declared.Entry.{Entry}
use Rattle.record.proofs.CheckByWord.{check_ext, check_lt}
use Rattle.record.proofs.EntryRules.{wrong_ext}

pub length_entry : (e : Entry) → length (entry_bytes e) ≡ 8
unfolding entry_bytes
length_entry e = refl

module _ (b : Block) where
  pub length_head : length (head_bytes b) ≡ 28
  unfolding head_bytes bytes
  length_head = refl

  pub length_entries : length (entries_bytes b) ≡ 480
  unfolding entries_bytes
  length_entries = length_joined 8 _ (λ i. length_entry _) 60

  pub length_body : length (body b) ≡ 508
  unfolding body
  length_body = rw (length-append, length_head, length_entries) refl

  pub length_encoded : length (encoded b) ≡ 512
  unfolding encoded
  length_encoded = rw (length-append, length_body, length_bytes) refl

  pub body_byte : (j : ℕ) → j < 508 → get_or (encoded b) j 0 ≡ get_or (body b) j 0
  unfolding encoded
  body_byte j h = get_or-append (body b) _ 0 j (omega (arith, length_body))

  pub head_byte : (j : ℕ) → j < 28 → get_or (encoded b) j 0 ≡ get_or (head_bytes b) j 0
  unfolding body
  head_byte j h = body_byte j (omega arith) ∙ get_or-append (head_bytes b) _ 0 j (omega (arith, length_head))

  -- byte k of entry i
  pub entry_byte_lem : (i k : ℕ) → i < 60 → k < 8 → entry_byte (encoded b) i k ≡ byte_of (get_or b.entries i no_entry) k
  unfolding body entries_bytes
  entry_byte_lem i k h g =
      let past : get_or (body b) (at i + k) 0 ≡ get_or (entries_bytes b) (8 * i + k) 0
      = rw (add_assoc 28 (8 * i) k, ← length_head) (get_or-append-add (head_bytes b) (entries_bytes b) (8 * i + k) 0) in
      body_byte (at i + k) (omega arith) ∙ past ∙ get_or_joined 8 _ (λ i. length_entry _) 0 60 i k h g

  pub check_same : check_of (encoded b) ≡ check_of (body b)
  check_same = check_ext (encoded b) (body b) body_byte

  -- the four bytes behind the body are its check
  pub check_byte : (k : ℕ) → get_or (encoded b) (508 + k) 0 ≡ get_or (bytes 4 (check_of (body b))) k 0
  unfolding encoded
  check_byte k = rw (← length_body) (get_or-append-add (body b) (bytes 4 (check_of (body b))) k 0)

  pub check_stored : little 4 (encoded b) 508 ≡ check_of (body b)
  check_stored =
      little_ext 4 (encoded b) (bytes 4 (check_of (body b))) 508 0 (λ k h. rw zero-add (check_byte k))
      ∙ little_bytes 4 (check_of (body b)) (check_lt (body b))

  pub outside_head : (k : ℕ) → k < 28 → outside (head_bytes b) k ≡ outside (encoded b) k
  unfolding outside
  outside_head k h = rw (head_byte k h) refl

  -- a byte of an entry is wrong by the block's n and the entry's own bytes
  pub wrong_value : (i : ℕ) → i < 60 → (k : ℕ) → wrong_byte b.n i (byte_of (get_or b.entries i no_entry)) k
      ≡ wrong_byte (get_or (encoded b) 4 0) i (entry_byte (encoded b) i) k
  unfolding head_bytes
  wrong_value i h k = rw (head_byte 4 (omega arith)) (sym (wrong_ext b.n i _ _ (λ j g. entry_byte_lem i j h g) k))

  -- an entry breaks its rule as its own value says
  pub broken_value : (i : ℕ) → i < 60 → wrong_entry b.n i (get_or b.entries i no_entry) ≡ broken (encoded b) i
  unfolding broken exists
  broken_value i h = ap (λ (k : ℕ). ltb k 8) (least_ext 0 8 _ _ (λ k _ _. wrong_value i h k))
