-- "Block record, 512 bytes": where each part of a block stands, from bytes to block and from block to bytes.
use Rattle.std.specs.Prelude.{ℕ, List, [], ◌∷◌, ◌++◌, get_or, replicate}
use Rattle.lists.specs.Lists.{tab, joined}
use Rattle.lists.specs.Bytes.{ascii, little, bytes}
use Rattle.record.specs.Check.{check_of}
use Rattle.record.specs.Rules.{entry_byte}
use Rattle.record.specs.declared.Block.{Block}
use Rattle.record.specs.declared.Entry.{Entry}

-- "From byte 28: 60 entries of 8 bytes. Byte 0 unit kind ..", 1 lowest latency, 2 highest, 3 register written, 4 and 5
-- registers read: entry i
unfoldable pub entry_at : List ℕ → ℕ → Entry
entry_at s i = record {
  kind = entry_byte s i 0;
  lo = entry_byte s i 1;
  hi = entry_byte s i 2;
  writes = entry_byte s i 3;
  reads1 = entry_byte s i 4;
  reads2 = entry_byte s i 5;
}

-- bytes 4 to 10 and the block number of the header table, and the 60 entries: the block that the bytes of a record say
unfoldable pub decoded : List ℕ → Block
decoded s = record {
  n = get_or s 4 0;
  q = get_or s 5 0;
  w = get_or s 6 0;
  f = get_or s 7 0;
  d = get_or s 8 0;
  c = get_or s 9 0;
  origin = get_or s 10 0;
  number = little 4 s 12;
  entries = tab 60 (entry_at s);
}

-- an entry that is all zero
abbrev pub no_entry : Entry
no_entry = record { kind = 0; lo = 0; hi = 0; writes = 0; reads1 = 0; reads2 = 0 }

-- bytes 0 to 27: letters BLK1, n, Q, W, f, d, c, origin, a spare, the block number, twelve spares
unfoldable pub head_bytes : Block → List ℕ
head_bytes b =
    ascii "BLK1"
    ++ (b.n ∷ b.q ∷ b.w ∷ b.f ∷ b.d ∷ b.c ∷ b.origin ∷ 0 ∷ (bytes 4 b.number ++ replicate 12 0))

-- the eight bytes of an entry
unfoldable pub entry_bytes : Entry → List ℕ
entry_bytes e = e.kind ∷ e.lo ∷ e.hi ∷ e.writes ∷ e.reads1 ∷ e.reads2 ∷ 0 ∷ 0 ∷ []

-- "60 entries of 8 bytes"
unfoldable pub entries_bytes : Block → List ℕ
entries_bytes b = joined 60 (λ i. entry_bytes (get_or b.entries i no_entry))

-- bytes 0 to 507: the header, then the entries
unfoldable pub body : Block → List ℕ
body b = head_bytes b ++ entries_bytes b

-- "Bytes 508–511 hold the check": the record of a block
unfoldable pub encoded : Block → List ℕ
encoded b = body b ++ bytes 4 (check_of (body b))
