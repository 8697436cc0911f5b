-- The instructions of a block, filled in one by one, and where those of an accepted block lead. Assumes nothing.
use Prim.Native.Nat.{ℕ, ◌+◌, ◌≤◌, ◌<◌}
use mathlib.Core.Path.{◌≡◌, ap, refl, ◌∙◌}
use mathlib.Core.List.{List}
use native.Mathlib.Omega.{arith}
use lib.ListN.{length, get_or, set}
use lib.Seq.{get_or-set_same, get_or-set_other}
use borrow.Author.Count.{below_none, below_more}
use Rattle.record.specs.Refusals.{block_verdict}
use Rattle.record.specs.declared.Block.{Block}
use Rattle.record.proofs.AcceptedRanges.{Ranges, ranges}
use Rattle.model.specs.Nodes.{entry, source}
use Rattle.unpacked.specs.inside.UnpackedBlock.{code, no_instruction, Instructions, Unpacked, Within}
use Rattle.unpacked.specs.declared.Instruction.{Instruction}
use Rattle.unpacked.specs.declared.Shape.{Shape}
use Rattle.unpacked.proofs.RegisterSources.{source_most}

-- ---- the instructions filled in
module _ (b : Block) where
  -- instruction j, its sources p and q
  abbrev instruction_with : ℕ → ℕ → ℕ → Instruction
  instruction_with j p q = record { kind = (entry b j).kind; low = (entry b j).lo; high = (entry b j).hi; first = p; second = q }

  -- instruction j of the block
  abbrev instruction_at : ℕ → Instruction
  instruction_at j = instruction_with j (code (source b (entry b j).reads1 j)) (code (source b (entry b j).reads2 j))

  -- the instructions below j
  pub record InstructionsTo (u : List Instruction) (j : ℕ) : Type 0 where
    pub each : (i : ℕ) → i < j → get_or u i no_instruction ≡ instruction_at i

  pub instructions_none : (u : List Instruction) → InstructionsTo u 0
  instructions_none u = record { each = below_none _ }

  pub instructions_more : (u : List Instruction) (j p q : ℕ) → j < length u
      → p ≡ code (source b (entry b j).reads1 j) → q ≡ code (source b (entry b j).reads2 j)
      → InstructionsTo u j → InstructionsTo (set u j (instruction_with j p q)) (j + 1)
  instructions_more u j p q l e f I = record {
    each = below_more (λ i. get_or (set u j (instruction_with j p q)) i no_instruction ≡ instruction_at i) j
        (λ i h. get_or-set_other u j i (instruction_with j p q) no_instruction (λ w. omega arith) ∙ I.each i h)
        (get_or-set_same u j (instruction_with j p q) no_instruction l ∙ rw (e, f) refl);
  }

  pub instructions_all : (u : List Instruction) (j : ℕ) → b.n ≤ j → InstructionsTo u j → Instructions b u
  instructions_all u j m I = record {
    kind = λ i h. ap (λ (x : Instruction). x.kind) (I.each i (omega arith));
    low = λ i h. ap (λ (x : Instruction). x.low) (I.each i (omega arith));
    high = λ i h. ap (λ (x : Instruction). x.high) (I.each i (omega arith));
    first = λ i h. ap (λ (x : Instruction). x.first) (I.each i (omega arith));
    second = λ i h. ap (λ (x : Instruction). x.second) (I.each i (omega arith));
  }

-- ---- of an accepted block
pub few : (b : Block) → block_verdict b ≡ (0, 0) → b.n ≤ 60
few b z = (ranges b z).n.1

pub within : (b : Block) (h : Shape) (u : List Instruction) → Unpacked b h u → Within h u
within b h u U = record {
  few = omega (arith, A.n.1, U.shape.n);
  near = omega (arith, A.w.1, U.shape.w);
  kind = λ i l. omega (arith, U.instructions.kind i (inside i l), (A.instruction i (inside i l)).kind);
  first = λ i l. omega (arith, U.instructions.first i (inside i l), source_most b (entry b i).reads1 i);
  second = λ i l. omega (arith, U.instructions.second i (inside i l), source_most b (entry b i).reads2 i);
}
  where
    A : Ranges b
    A = ranges b U.accepted

    inside : (i : ℕ) → i < h.n → i < b.n
    inside i l = omega (arith, U.shape.n)
