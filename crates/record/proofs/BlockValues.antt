-- What every block value of the code is: from what the machine knows of its parts, and of a block that was read from the bytes.
-- Assumes nothing.
use Prim.Native.Nat.{ℕ, zero, suc, ◌+◌}
use mathlib.Core.List.{List, [], ◌∷◌}
use native.Mathlib.Omega.{arith}
use lib.ListN.{get_or, get_or-eq_default}
use lib.Dec.{ltb}
use borrow.Author.Tests.{ltb-true, ltb-false}
use mir.Syntax.{w8}
use mir.Val.{WT, Fits}
use borrow.Author.Rules.{rules}
use Rattle.lists.specs.Lists.{tab}
use Rattle.lists.proofs.Bools.{by_test}
use Rattle.lists.proofs.TableByIndex.{length_tab, get_or_tab}
use Rattle.lists.proofs.Little.{little_below}
use Rattle.record.specs.Rules.{at}
use Rattle.record.specs.Layout.{entry_at, decoded, no_entry}
use Rattle.std.specs.Prelude.{Ok}
use Rattle.record.specs.Promises.{ByteString, ByteEntry, Whole, Reads}
use Rattle.record.specs.declared.Entry.{Entry}
use Rattle.record.specs.declared.Block.{Block}
use Rattle.record.proofs.Block.TheLaws as laws

-- an entry that is all zero is six bytes
zero_bytes : ByteEntry no_entry
zero_bytes =
    record { kind = omega arith; lo = omega arith; hi = omega arith; writes = omega arith; reads1 = omega arith; reads2 = omega arith }

-- entries as the machine has them
abbrev Known : List Entry → Type 0
Known es = WT ((laws.the_laws).1.1.1.1.1.1.1.1.0.val es)

-- each of them is six bytes
pub each_bytes : (es : List Entry) → Known es → (i : ℕ) → ByteEntry (get_or es i no_entry)
each_bytes [] g i = zero_bytes
each_bytes (e ∷ es) g zero =
    let x = g.0 in
    let kind : Fits w8 e.kind = x.0 in
    let lo : Fits w8 e.lo = x.1.0 in
    let hi : Fits w8 e.hi = x.1.1.0 in
    let writes : Fits w8 e.writes = x.1.1.1.0 in
    let reads1 : Fits w8 e.reads1 = x.1.1.1.1.0 in
    let reads2 : Fits w8 e.reads2 = x.1.1.1.1.1.0 in
    record { kind = search rules; lo = search rules; hi = search rules; writes = search rules; reads1 = search rules; reads2 = search rules }
each_bytes (e ∷ es) g (suc i) = each_bytes es g.1 i

-- ---- a block that was read
module _ (s : List ℕ) (u : ByteString s) where
  -- each of its entries
  entry_bytes_lem : (i : ℕ) → ByteEntry (entry_at s i)
  unfolding entry_at
  entry_bytes_lem i =
      record {
        kind = omega (arith, u.byte (at i + 0));
        lo = omega (arith, u.byte (at i + 1));
        hi = omega (arith, u.byte (at i + 2));
        writes = omega (arith, u.byte (at i + 3));
        reads1 = omega (arith, u.byte (at i + 4));
        reads2 = omega (arith, u.byte (at i + 5));
      }

  pub decoded_whole : Whole (decoded s)
  unfolding decoded
  decoded_whole =
      record {
        n = omega (arith, u.byte 4);
        q = omega (arith, u.byte 5);
        w = omega (arith, u.byte 6);
        f = omega (arith, u.byte 7);
        d = omega (arith, u.byte 8);
        c = omega (arith, u.byte 9);
        origin = omega (arith, u.byte 10);
        number = little_below 4 s 12 u.byte;
        entries = length_tab 60 (entry_at s);
        each = λ i.
            by_test (ltb i 60)
            (λ t. rw (get_or_tab 60 (entry_at s) i no_entry (ltb-true i 60 t)) (entry_bytes_lem i))
            (λ t. rw (get_or-eq_default (tab 60 (entry_at s)) no_entry {n = i} (omega (arith, length_tab 60 (entry_at s), ltb-false i 60 t))) zero_bytes);
      }

-- WHATEVER READING GIVES IS WHOLE
pub read_whole : (s : List ℕ) (b : Block) → Reads s (Ok b) → Whole b
read_whole s b x = rw x.block (decoded_whole s x.bytes)
