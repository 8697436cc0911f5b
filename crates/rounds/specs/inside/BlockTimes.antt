-- What the earliest times, a round and the rounds leave, for every block that may have been unpacked. Only promises of inside
-- functions use these words.
use Rattle.std.specs.Prelude.{ℕ, ◌<◌, ◌≤◌, ◌≡◌, List, length, get_or}
use Rattle.record.specs.declared.Block.{Block}
use Rattle.model.specs.Nodes.{nodes}
use Rattle.model.specs.Paths.{Pairs, contending}
use Rattle.model.specs.Rounds.{earliest, rival, round, windows, round_count, pair_count, apart_count}
use Rattle.unpacked.specs.inside.UnpackedBlock.{Unpacked}
use Rattle.unpacked.specs.declared.unpacked_block.UnpackedBlock.{UnpackedBlock}
use Rattle.pairs.specs.declared.row.Row.{Row}
use Rattle.pairs.specs.inside.PairRows.{Rows, Even}
use Rattle.rounds.specs.declared.Counts.{Counts}

-- a block was unpacked
pub record Unpacks (v : UnpackedBlock) : Type 0 where
  pub b : Block
  pub unpacked : Unpacked b v.shape v.instructions

-- s has for each node of b the time that xs has
pub record TimesOf (b : Block) (xs s : List ℕ) : Type 0 where
  pub at : (v : ℕ) → v < nodes b → get_or s v 0 ≡ get_or xs v 0

-- the earliest starts
pub record EarliestTimes (v : UnpackedBlock) (s : List ℕ) : Type 0 where
  pub long : length s ≡ 300
  pub times : (b : Block) → Unpacked b v.shape v.instructions → TimesOf b (earliest b) s

-- the latest starts of a round, the rows having the pairs that are not known to be apart
pub record RoundTimes (v : UnpackedBlock) (rows : List Row) (s : List ℕ) : Type 0 where
  pub long : length s ≡ 300
  pub times : (b : Block) (con known : Pairs) → Unpacked b v.shape v.instructions → Rows b.n (rival con known) rows → Even b.n (rival con known)
      → TimesOf b (round b con known) s

-- round k was the last: late has the latest starts, the rows that are left have the pairs that are not apart
pub record AfterLast (b : Block) (k : ℕ) (late : List ℕ) (left : List Row) : Type 0 where
  pub rounds : k ≡ round_count b
  pub times : TimesOf b (windows b).late late
  pub rows : Rows b.n (rival (contending b) (windows b).known) left
  pub even : Even b.n (rival (contending b) (windows b).known)

-- the same for every block that may have been unpacked
pub record RoundsOver (v : UnpackedBlock) (k : ℕ) (late : List ℕ) (left : List Row) : Type 0 where
  pub long : length late ≡ 300
  pub last : (b : Block) → Unpacked b v.shape v.instructions → AfterLast b k late left

-- how many rounds there were, how many pairs contend, how many of them are apart
pub record CountsOf (b : Block) (r : Counts) : Type 0 where
  pub rounds : r.rounds ≡ round_count b
  pub pairs : r.pairs ≡ pair_count b
  pub apart : r.apart ≡ apart_count b

-- the windows: late has the latest starts, and the counts are small
pub record Refined (v : UnpackedBlock) (r : Counts) (late : List ℕ) : Type 0 where
  pub long : length late ≡ 300
  pub rounds : r.rounds ≤ 3601
  pub pairs : r.pairs ≤ 3600
  pub apart : r.apart ≤ 3600
  pub counts : (b : Block) → Unpacked b v.shape v.instructions → CountsOf b r
  pub times : (b : Block) → Unpacked b v.shape v.instructions → TimesOf b (windows b).late late
