-- A block unpacked: its header's numbers, and a list of its instructions. Only promises of inside functions use these words.
use Rattle.std.specs.Prelude.{ℕ, ◌+◌, ◌<◌, ◌≤◌, ◌≡◌, List, [], ◌∷◌, get_or}
use Rattle.record.specs.Refusals.{block_verdict}
use Rattle.record.specs.declared.Block.{Block}
use Rattle.model.specs.Nodes.{entry, source}
use Rattle.unpacked.specs.declared.Instruction.{Instruction}
use Rattle.unpacked.specs.declared.Shape.{Shape}

-- the header's numbers; and no latency of a value of the code is above 255
pub record Shapes (b : Block) (h : Shape) : Type 0 where
  pub n : h.n ≡ b.n
  pub q : h.q ≡ b.q
  pub w : h.w ≡ b.w
  pub f : h.f ≡ b.f
  pub d : h.d ≡ b.d
  pub c : h.c ≡ b.c
  pub most : (i : ℕ) → (entry b i).hi ≤ 255

-- a list of at most one number as one number: one more than it, or 0 where there is none
unfoldable pub code : List ℕ → ℕ
code [] = 0
code (i ∷ is) = i + 1

-- what stands for an instruction beyond the list
abbrev pub no_instruction : Instruction
no_instruction = record { kind = 0; low = 0; high = 0; first = 0; second = 0 }

-- of instruction i: its kind, its lowest and highest latency, its two sources
abbrev pub kind_of : List Instruction → ℕ → ℕ
kind_of u i = (get_or u i no_instruction).kind

abbrev pub low_of : List Instruction → ℕ → ℕ
low_of u i = (get_or u i no_instruction).low

abbrev pub high_of : List Instruction → ℕ → ℕ
high_of u i = (get_or u i no_instruction).high

abbrev pub first_of : List Instruction → ℕ → ℕ
first_of u i = (get_or u i no_instruction).first

abbrev pub second_of : List Instruction → ℕ → ℕ
second_of u i = (get_or u i no_instruction).second

-- the instructions of a block
pub record Instructions (b : Block) (u : List Instruction) : Type 0 where
  pub kind : (i : ℕ) → i < b.n → kind_of u i ≡ (entry b i).kind
  pub low : (i : ℕ) → i < b.n → low_of u i ≡ (entry b i).lo
  pub high : (i : ℕ) → i < b.n → high_of u i ≡ (entry b i).hi
  pub first : (i : ℕ) → i < b.n → first_of u i ≡ code (source b (entry b i).reads1 i)
  pub second : (i : ℕ) → i < b.n → second_of u i ≡ code (source b (entry b i).reads2 i)

-- an accepted block, unpacked
pub record Unpacked (b : Block) (h : Shape) (u : List Instruction) : Type 0 where
  pub accepted : block_verdict b ≡ (0, 0)
  pub shape : Shapes b h
  pub instructions : Instructions b u

-- instructions that lead nowhere outside: at most 60 instructions, a window of at most 60, four kinds, and each source stands
-- before its reader
pub record Within (h : Shape) (u : List Instruction) : Type 0 where
  pub few : h.n ≤ 60
  pub near : h.w ≤ 60
  pub kind : (i : ℕ) → i < h.n → kind_of u i ≤ 3
  pub first : (i : ℕ) → i < h.n → first_of u i ≤ i
  pub second : (i : ℕ) → i < h.n → second_of u i ≤ i
