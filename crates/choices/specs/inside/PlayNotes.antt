-- What the notes of a play hold: of the model's play IF and ID of the instructions below m, CM of those below c, and the EX
-- starts that are fixed so far. Only promises of inside functions use these words. That they hold before the play and that
-- each step keeps them is in proofs/NotesFirst, proofs/NotesDecoded and proofs/NotesStarted.
use Rattle.std.specs.Prelude.{ℕ, ◌+◌, ◌-◌, ◌≤◌, ◌<◌, min, ◌≡◌, Bool, true, false, List, length, get_or}
use Rattle.record.specs.declared.Block.{Block}
use Rattle.model.specs.Nodes.{IF, ID, WB, CM, node, chosen}
use Rattle.model.specs.Cycles.{start, finish, units, play}
use Rattle.schedules.specs.inside.Executions.{work, held, Front}
use Rattle.unpacked.specs.inside.UnpackedBlock.{Shapes}
use Rattle.unpacked.specs.declared.Shape.{Shape}
use Rattle.choices.specs.declared.PlayNotes.{PlayNotes}
use Rattle.choices.specs.declared.Row.{Row}
use Rattle.choices.specs.declared.UnitTimes.{UnitTimes}
use Rattle.choices.specs.inside.InstructionRows.{Playing}
use Rattle.choices.specs.inside.NoteSteps.{never, fixed, unit_times}

-- 32 zeros, and after them f of the numbers below m, in a list of 92
pub record Times (y : List ℕ) (m : ℕ) (f : ℕ → ℕ) : Type 0 where
  pub long : length y ≡ 92
  pub pad : (z : ℕ) → z < 32 → get_or y z 0 ≡ 0
  pub each : (i : ℕ) → i < m → get_or y (32 + i) 0 ≡ f i

-- how many of a kind's four numbers are above t
unfoldable pub above : UnitTimes → ℕ → ℕ
above u t = min 1 (u.first - t) + min 1 (u.second - t) + min 1 (u.third - t) + min 1 (u.fourth - t)

module _ (b : Block) (l : List ℕ) where
  -- the starts of the play
  abbrev pub starts : List ℕ
  starts = play b (chosen b l)

  -- a node's finish
  abbrev pub ends : ℕ → ℕ
  ends v = finish (chosen b l) starts v

  -- the times off EX
  pub record OffEX (c m : ℕ) (x : PlayNotes) : Type 0 where
    pub fetch : Times x.fetch m (λ i. start starts (node IF i))
    pub fetched : Times x.fetched m (λ i. ends (node IF i))
    pub decoded : Times x.decoded m (λ i. ends (node ID i))
    pub committed : Times x.committed c (λ i. ends (node CM i))

  -- the units of kind k: four numbers, rising, of which as many are above t as EX of those that are fixed finish after t, and
  -- as many more as there are units too few
  pub record Slots (k : ℕ) (is_fixed : ℕ → Bool) (u : UnitTimes) : Type 0 where
    pub first : u.first ≤ u.second
    pub second : u.second ≤ u.third
    pub third : u.third ≤ u.fourth
    pub most : u.fourth ≤ never
    pub count : (t : ℕ) → t < never → above u t ≡ min 4 (4 - units b k + held (work b l) is_fixed k t)

  -- the EX starts that are fixed
  pub record Starts (m : ℕ) (x : PlayNotes) : Type 0 where
    pub none : get_or x.written 0 0 ≡ 0
    pub written : (i : ℕ) → i < b.n → fixed x i ≡ true → (get_or x.written (i + 1) 0 ≡ ends (node WB i)) × (i < m)
    pub waiting : (i : ℕ) → i < m → fixed x i ≡ false → get_or x.waiting i 0 ≡ ends (node ID i)
    pub gone : (i : ℕ) → i < m → fixed x i ≡ true → get_or x.waiting i 0 ≡ never
    pub front : Front (work b l) (fixed x)
    pub slots : (k : ℕ) → k < 4 → Slots k (fixed x) (unit_times x k)

  -- all of it: CM of the instructions below c is noted, and their EX have starts
  pub record Notes (c m : ℕ) (x : PlayNotes) : Type 0 where
    pub places : length x.written ≡ 61
    pub sixty : length x.waiting ≡ 60
    pub kinds : length x.units ≡ 4
    pub past : c ≤ m
    pub few : m ≤ b.n
    pub off_ex : OffEX c m x
    pub fixes : Starts m x
    pub passed : (i : ℕ) → i < c → fixed x i ≡ true

-- the notes where EX of instruction c is to start, all that can be decoded being so
pub record Underway (c m : ℕ) (rows : List Row) (x : PlayNotes) : Type 0 where
  pub b : Block
  pub l : List ℕ
  pub playing : Playing b l rows
  pub notes : Notes b l c m x
  pub some : c < m
  pub all : min b.n (c + b.w) ≤ m

-- the notes before the play
pub record FirstNotes (x : PlayNotes) : Type 0 where
  pub notes : (b : Block) (l : List ℕ) (rows : List Row) → Playing b l rows → Notes b l 0 0 x

-- IF and ID of the instructions from `from` on and below `end` are noted, whatever c is
pub record DecodesUntil (h : Shape) (from end : ℕ) (x x' : PlayNotes) : Type 0 where
  pub notes : (b : Block) (l : List ℕ) (rows : List Row) (c : ℕ) → Playing b l rows → Shapes b h → from ≤ end → end ≤ min b.n (c + b.w)
      → Notes b l c from x → Notes b l c end x'

-- the EX starts up to that of c are fixed
pub record StartsUntil (c m : ℕ) (rows : List Row) (x x' : PlayNotes) : Type 0 where
  pub notes : (b : Block) (l : List ℕ) → Playing b l rows → min b.n (c + b.w) ≤ m → Notes b l c m x → Notes b l c m x' × (fixed x' c ≡ true)
