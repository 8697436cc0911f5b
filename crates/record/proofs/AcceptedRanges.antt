-- What an accepted block is, in numbers: its header's and its instructions' ranges. Assumes nothing.
use mathlib.Core.Path.{◌≡◌, ◌∙◌}
use mathlib.Core.Bool.{false, ◌||◌}
use Prim.Native.Nat.{ℕ, ◌≤◌, ◌<◌}
use native.Mathlib.Omega.{arith}
use lib.ListN.{get_or}
use lib.Dec.{ltb}
use borrow.Author.Tests.{ltb-false}
use Rattle.lists.proofs.Least.{least_below, exists_not}
use Rattle.lists.proofs.Bools.{or_left, or_right}
use Rattle.record.specs.Rules.{header_table, lows, highs, outside, wrong_byte, broken}
use Rattle.record.specs.Layout.{no_entry, head_bytes, entry_bytes, encoded}
use Rattle.record.specs.inside.EntryBytes.{byte_of}
use Rattle.record.specs.Refusals.{block_verdict}
use Rattle.record.specs.declared.Block.{Block}
use Rattle.record.proofs.EntryRules.{first_three}
use Rattle.record.proofs.RecordBytes.{outside_head, wrong_value}
use Rattle.record.proofs.OutputVerdicts.{block_fine}

-- instruction i of an accepted block
pub record Instruction (b : Block) (i : ℕ) : Type 0 where
  pub kind : (get_or b.entries i no_entry).kind ≤ 3
  pub lo : 1 ≤ (get_or b.entries i no_entry).lo
  pub hi : (get_or b.entries i no_entry).lo ≤ (get_or b.entries i no_entry).hi

pub record Ranges (b : Block) : Type 0 where
  pub n : (1 ≤ b.n) × (b.n ≤ 60)
  pub q : (1 ≤ b.q) × (b.q ≤ 16)
  pub w : (1 ≤ b.w) × (b.w ≤ 32)
  pub f : (1 ≤ b.f) × (b.f ≤ 4)
  pub d : (1 ≤ b.d) × (b.d ≤ 4)
  pub c : (1 ≤ b.c) × (b.c ≤ 4)
  pub origin : (1 ≤ b.origin) × (b.origin ≤ 2)
  pub instruction : (i : ℕ) → i < b.n → Instruction b i

in_range : (l h x : ℕ) → (ltb x l || ltb h x) ≡ false → (l ≤ x) × (x ≤ h)
in_range l h x e = (ltb-false x l (or_left (ltb x l) (ltb h x) e), ltb-false h x (or_right (ltb x l) (ltb h x) e))

module _ (b : Block) (z : block_verdict b ≡ (0, 0)) where
  header : (k : ℕ) → 4 ≤ k → k < 28 → outside (head_bytes b) k ≡ false
  header k a l = outside_head b k l ∙ least_below 4 28 (outside (encoded b)) k a (omega (arith, (block_fine b z).0)) l

  kept : (i : ℕ) → i < 60 → (k : ℕ) → k < 8 → wrong_byte b.n i (byte_of (get_or b.entries i no_entry)) k ≡ false
  unfolding broken
  kept i l k g =
      let whole : broken (encoded b) i ≡ false = least_below 0 60 (broken (encoded b)) i (omega arith) (omega (arith, (block_fine b z).1)) l in
      wrong_value b i l k ∙ exists_not 0 8 _ whole k (omega arith) g

  instruction : b.n ≤ 60 → (i : ℕ) → i < b.n → Instruction b i
  unfolding entry_bytes
  instruction few i l =
      let k = kept i (omega arith) in
      let x = byte_of (get_or b.entries i no_entry) in
      let u = first_three b.n i x l (k 0 (omega arith)) (k 1 (omega arith)) (k 2 (omega arith)) in
      record { kind = u.0; lo = u.1; hi = u.2 }

  pub ranges : Ranges b
  unfolding outside head_bytes header_table lows highs
  ranges =
      let n = in_range 1 60 b.n (header 4 (omega arith) (omega arith)) in
      record {
        n = n;
        q = in_range 1 16 b.q (header 5 (omega arith) (omega arith));
        w = in_range 1 32 b.w (header 6 (omega arith) (omega arith));
        f = in_range 1 4 b.f (header 7 (omega arith) (omega arith));
        d = in_range 1 4 b.d (header 8 (omega arith) (omega arith));
        c = in_range 1 4 b.c (header 9 (omega arith) (omega arith));
        origin = in_range 1 2 b.origin (header 10 (omega arith) (omega arith));
        instruction = instruction n.1;
      }
