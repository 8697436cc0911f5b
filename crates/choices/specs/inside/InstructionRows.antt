-- What the play asks of each instruction, a row each: its kind, its latency, and its two sources as numbers. Only promises of
-- inside functions use these words.
use Rattle.std.specs.Prelude.{ℕ, ◌≤◌, ◌<◌, ◌≡◌, List, get_or}
use native.Mathlib.Omega.{arith}
use Rattle.record.specs.Refusals.{block_verdict}
use Rattle.record.specs.declared.Block.{Block}
use Rattle.model.specs.Nodes.{entry, source}
use Rattle.schedules.specs.inside.Executions.{Fitting}
use Rattle.unpacked.specs.inside.UnpackedBlock.{code}
use Rattle.choices.specs.declared.Row.{Row}

-- what stands in a list of rows beyond its end
pub none : 0 ≤ 60
none = omega arith

abbrev pub no_row : Row
no_row = record { kind = 0; latency = 0; first = 0; second = 0; sources = (none, none) }

-- row i
abbrev pub row : List Row → ℕ → Row
row rows i = get_or rows i no_row

-- the rows of the instructions of b under the latencies l
pub record InstructionRows (b : Block) (l : List ℕ) (rows : List Row) : Type 0 where
  pub kind : (i : ℕ) → i < b.n → (row rows i).kind ≡ (entry b i).kind
  pub takes : (i : ℕ) → i < b.n → (row rows i).latency ≡ get_or l i 0
  pub first : (i : ℕ) → i < b.n → (row rows i).first ≡ code (source b (entry b i).reads1 i)
  pub second : (i : ℕ) → i < b.n → (row rows i).second ≡ code (source b (entry b i).reads2 i)

-- the rows from n on are those of no instruction
pub record NoneFrom (n : ℕ) (rows : List Row) : Type 0 where
  pub kind : (i : ℕ) → n ≤ i → (row rows i).kind ≡ 0

-- each row leads to one of four kinds. That its sources lead to instructions or to none is in its type
pub record Kinds (rows : List Row) : Type 0 where
  pub each : (i : ℕ) → (row rows i).kind ≤ 3

-- the instructions from c on and below m: one at least, all of 60
pub record Span (c m : ℕ) : Type 0 where
  pub some : c < m
  pub few : m ≤ 60

-- an accepted block of a value of the code, latencies that its entries allow, and its rows
pub record Playing (b : Block) (l : List ℕ) (rows : List Row) : Type 0 where
  pub accepted : block_verdict b ≡ (0, 0)
  pub cap : (i : ℕ) → (entry b i).hi ≤ 255
  pub fit : Fitting b l
  pub has : InstructionRows b l rows
