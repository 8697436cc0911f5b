-- What is known of a block in a cycle, and from when on each kind's unit is free. Only promises of inside functions use these
-- words.
use Rattle.std.specs.Prelude.{ℕ, ◌≤◌, ◌<◌, ◌≡◌, ◌⊎◌, List, length, get_or, leb}
use Rattle.record.specs.declared.Block.{Block}
use Rattle.model.specs.Nodes.{nodes, chosen}
use Rattle.model.specs.Cycles.{most_cycles, not_started, start, free, turns}
use Rattle.unpacked.specs.inside.UnpackedBlock.{Instructions, Unpacked}
use Rattle.unpacked.specs.declared.Instruction.{Instruction}
use Rattle.unpacked.specs.declared.UnpackedBlock.{UnpackedBlock}
use Rattle.cycles.specs.declared.Turn.{Turn}

-- what a cycle is lent with an unpacked block, whose instructions lead nowhere outside: a latency for each instruction, and 300
-- starts
pub record Lent (u : UnpackedBlock) (l s : List ℕ) : Type 0 where
  pub list : length l ≡ u.shape.n
  pub long : length s ≡ 300

-- a turn of an instruction, in a cycle that a play may have
pub record Turns (u : UnpackedBlock) (x : Turn) : Type 0 where
  pub now : x.t < most_cycles
  pub one : x.i < u.shape.n

-- in cycle t: there are 300 nodes, and no start is after t
pub record Timed (t : ℕ) (s : List ℕ) : Type 0 where
  pub now : t < most_cycles
  pub long : length s ≡ 300
  pub each : (v : ℕ) → (start s v ≤ t) ⊎ (start s v ≡ not_started)

-- ends has for each kind from when on, from cycle t on, its unit is free
pub record Units (b : Block) (lat : ℕ → ℕ) (t : ℕ) (s ends : List ℕ) : Type 0 where
  pub four : length ends ≡ 4
  pub free : (k t' : ℕ) → t ≤ t' → free b lat t' s k ≡ leb (get_or ends k 0) t'

-- ends is that of every block of n instructions which has the instructions u, with the latencies l, in every cycle after the starts s
pub record UnitEnds (n : ℕ) (u : List Instruction) (l s ends : List ℕ) : Type 0 where
  pub units : (b : Block) (t : ℕ) → n ≡ b.n → Instructions b u → Timed t s → Units b (chosen b l) t s ends

-- s' has the starts after cycle t of every block that is unpacked so, with the latencies l, those before it being s
pub record CyclePlayed (u : UnpackedBlock) (l : List ℕ) (t : ℕ) (s s' : List ℕ) : Type 0 where
  pub played : (b : Block) → Unpacked b u.shape u.instructions → Timed t s → s' ≡ turns b (chosen b l) t s (nodes b)
