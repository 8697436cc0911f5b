-- The numbers of the two outputs as the code has them: u has the instructions of a block, early and late have its earliest and latest
-- starts. Only promises of inside functions use these words. That these are the block's is in proofs/ResultRecord and
-- proofs/WindowTable.
use Rattle.std.specs.Prelude.{ℕ, ◌%◌, ◌*◌, ◌+◌, ◌<◌, ◌≤◌, ◌≡◌, ◌++◌, ◌∷◌, List, [], ltb, drop, length, replicate}
use Rattle.lists.specs.Bytes.{bytes}
use Rattle.lists.specs.Lists.{joined, pick, put}
use Rattle.record.specs.Check.{check_of}
use Rattle.record.specs.declared.Block.{Block}
use Rattle.model.specs.Cycles.{start}
use Rattle.model.specs.Nodes.{CM, EX, fetch, instruction, is_ex, latency, node, stage}
use Rattle.model.specs.Rounds.{earliest, window_place, windows}
use Rattle.unpacked.specs.declared.Instruction.{Instruction}
use Rattle.unpacked.specs.declared.unpacked_block.UnpackedBlock.{UnpackedBlock}
use Rattle.unpacked.specs.inside.ReadyByStage.{ready_ex}
use Rattle.unpacked.specs.inside.UnpackedBlock.{first_of, high_of, low_of, second_of}
use Rattle.pairs.specs.declared.Times.{Times}
use Rattle.pairs.specs.inside.PairRows.{finish_ex}
use Rattle.rounds.specs.declared.Counts.{Counts}
use Rattle.rounds.specs.inside.BlockTimes.{EarliestTimes, Refined, TimesOf}
use Rattle.analysis.specs.Result.{four_of, head_of, summary_of}
use Rattle.analysis.specs.declared.Summary.{Summary}

-- the times and counts of every block that may have been unpacked
pub record Analysed (v : UnpackedBlock) (t : Times) (r : Counts) : Type 0 where
  pub soonest : EarliestTimes v t.early
  pub latest : Refined v r t.late

-- those of the block b: what the analysis says, and both times
pub record Summarised (b : Block) (t : Times) (s : Summary) : Type 0 where
  pub summary : s ≡ summary_of b
  pub soonest : TimesOf b (earliest b) t.early
  pub latest : TimesOf b (windows b).late t.late

-- ---- the result record

-- the eight bytes of entry i where there are n instructions
unfoldable pub times_at : ℕ → List Instruction → List ℕ → List ℕ → ℕ → List ℕ
times_at n u early late i =
    pick (ltb i n) (four_of (start early (node EX i)) (start late (node EX i)) (finish_ex u late i) (start late (node CM i) + 1)) (replicate 8 0)

-- its first 508 bytes
unfoldable pub body_from : Summary → List Instruction → List ℕ → List ℕ → List ℕ
body_from s u early late = head_of s ++ joined 60 (times_at s.n u early late)

-- all of it
unfoldable pub result_from : Summary → List Instruction → List ℕ → List ℕ → List ℕ
result_from s u early late = let body = body_from s u early late in body ++ bytes 4 (check_of body)

-- ---- the window table

-- the latest ready time of node v
abbrev pub ready_at : List Instruction → List ℕ → ℕ → ℕ
ready_at u late v =
    let i = instruction v in
    pick (is_ex v) (ready_ex (first_of u i) (second_of u i) late i) (start late (node (stage v) i))

-- three numbers of node v, and the other three
abbrev pub early_three : List Instruction → List ℕ → ℕ → List ℕ
early_three u early v = start early v ∷ start early v ∷ (start early v + latency fetch (low_of u (instruction v)) v) % 65536 ∷ []

abbrev pub late_three : List Instruction → List ℕ → ℕ → List ℕ
late_three u late v =
    ready_at u late v % 65536 ∷ start late v ∷ (start late v + latency fetch (high_of u (instruction v)) v) % 65536 ∷ []

-- the six of node v written
unfoldable pub node_into : ℕ → List Instruction → List ℕ → List ℕ → List ℕ → List ℕ
node_into v u early late o = put (put o (window_place v 0) (early_three u early v)) (window_place v 3) (late_three u late v)

-- the table in front of what stood behind it
unfoldable pub table_from : UnpackedBlock → List ℕ → List ℕ → List ℕ → List ℕ
table_from block early late o =
    let n = block.shape.n in
    let u = block.instructions in
    joined (5 * n) (λ v. early_three u early v ++ late_three u late v) ++ drop (30 * n) o

-- sources that lead nowhere outside, and room for node v in the table
pub record NodeRoom (v : ℕ) (u : List Instruction) (out : List ℕ) : Type 0 where
  pub few : v < 300
  pub first : first_of u (instruction v) ≤ 60
  pub second : second_of u (instruction v) ≤ 60
  pub room : window_place v 6 ≤ length out
