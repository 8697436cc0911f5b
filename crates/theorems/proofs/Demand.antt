-- Demand 3, sentence by sentence, and the sentences of the rules that say what to prove. The words are those of specs/ here
-- and in the model; the reasons are in the other files. Assumes nothing.
use Prim.Native.Nat.{ℕ, suc, ◌+◌, ◌-◌, ◌*◌, ◌≤◌, ◌<◌}
use mathlib.Core.Path.{◌≡◌}
use mathlib.Core.Bool.{true}
use mathlib.Core.List.{List}
use native.Mathlib.Omega.{arith}
use lib.ListN.{get_or}
use Rattle.lists.specs.Bytes.{little}
use Rattle.record.specs.Promises.{Whole}
use Rattle.record.specs.Refusals.{Answer}
use Rattle.std.specs.Prelude.{Result, Ok as Accepted}
use Rattle.record.specs.declared.Block.{Block}
use Rattle.record.proofs.AcceptedRanges.{ranges}
use Rattle.model.specs.Nodes.{nodes, entry, chosen}
use Rattle.model.specs.Paths.{has, count, contending}
use Rattle.model.specs.Cycles.{cycles_each, most_cycles, first_state, all_started, play_on, play, play_length, play_place, play_table}
use Rattle.model.specs.Rounds.{windows, pair_count, round_count, apart_count, bound, window_place, window_numbers, window_table}
use Rattle.model.proofs.RoundsEnd.{rounds_most as settled-most}
use Rattle.model.proofs.Limits.{bound_limit as model-limit}
use Rattle.model.proofs.Chains.{contend_near as model-near}
use Rattle.analysis.specs.Promises.{Analyses, WritesWindows}
use Rattle.play.specs.Promises.{answer_of, PlaysCycle, Plays, GivesPlayLength}
use Rattle.play.specs.declared.PlayState.{PlayState}
use Rattle.play.specs.declared.RefusedCycle.{RefusedCycle}
use Rattle.theorems.specs.Words.{AcceptedBlock, AcceptedList, Within, Inside, StartsInTime, Steps, TimesKept}
use Rattle.theorems.specs.RoundByRound.{known_at, late_at, apart_by, apart_at}
use Rattle.theorems.proofs.KnownPairs.{last_round}
use Rattle.theorems.proofs.ApartGrows.{next_apart, known_apart, count_shown}
use Rattle.theorems.proofs.PlaysInside.{play_inside, starts_in_time, last_all_started, last_play, length_bound, chosen_fits}
use Rattle.theorems.proofs.TablesWithin.{table_within, table_few}
use Rattle.theorems.proofs.OutcomesInside.{written_within, given_bound}
use Rattle.theorems.proofs.RecordTimes.{times_kept}
use Rattle.theorems.proofs.Stepping.{
  steps_play as stepping-play,
  steps_accepted as stepping-accepted,
  steps_table as stepping-table,
  steps_written as stepping-written,
}

-- ---- demand 3. Every operation that takes a block promises that it is whole; so is the one that reading gives (`read_whole`)
module _ (b : Block) (whole : Whole b) (accepted : AcceptedBlock b) where
  -- its latencies are bytes
  cap : (i : ℕ) → (entry b i).hi ≤ 255
  cap i = (whole.each i).hi

  module _ (l : List ℕ) (listed : AcceptedList b l) where
    -- the latencies that the list chooses
    abbrev lat : ℕ → ℕ
    lat = chosen b l

    -- "Every play stays inside the windows"
    pub inside : (v : ℕ) → v < nodes b → Inside b lat v
    inside = play_inside b accepted cap lat (chosen_fits b accepted l listed)

    -- of the tables: number k of a node's three lies between number k and number 3 + k of its six
    pub tables_inside : (v k : ℕ) → v < nodes b → k < 3
        → Within (get_or (window_table b) (window_place v k) 0) (get_or (play_table b lat) (play_place v k) 0) (get_or (window_table b) (window_place v (3 + k)) 0)
    tables_inside v k h q = table_within b lat v k h q (inside v h)

    -- "nothing waits past its latest start"
    pub in_time : StartsInTime b lat
    in_time = starts_in_time b accepted cap lat (chosen_fits b accepted l listed)

    -- so every play ends: after 513 × n cycles at most, all have started
    pub play_ends : all_started b (play_on (cycles_each * b.n) b lat first_state) ≡ true
    play_ends = last_all_started b accepted cap lat (chosen_fits b accepted l listed)

    -- and those cycles are the whole play
    pub play_whole : play b lat ≡ (play_on (cycles_each * b.n) b lat first_state).starts
    play_whole = last_play b accepted cap lat (chosen_fits b accepted l listed)

    -- "the last commit is by the bound"
    pub by_bound : play_length b lat ≤ bound b
    by_bound = length_bound b accepted cap lat (chosen_fits b accepted l listed)

  -- "the bound is at most 513 cycles per instruction", so 30,780
  pub bound_limit : (bound b ≤ cycles_each * b.n) × (cycles_each * b.n ≤ most_cycles)
  bound_limit = (model-limit b (ranges b accepted) cap, omega (arith, (ranges b accepted).n.1))

-- ---- the same of whatever the operations give
module _ (b : Block) (l : List ℕ) where
  -- "Every play stays inside the windows": what a play writes lies within what `windows` writes
  pub outcomes_inside : (o o' : List ℕ) (a : Answer) → WritesWindows b o a o' → a ≡ Accepted tt
      → (q q' : List ℕ) (c : Answer) → Plays b l q c q' → c ≡ Accepted tt
      → (v k : ℕ) → v < nodes b → k < 3
      → Within (get_or o' (window_place v k) 0) (get_or q' (play_place v k) 0) (get_or o' (window_place v (3 + k)) 0)
  outcomes_inside = written_within b l

  -- and every number that the result record has for an instruction
  pub outcomes_times : (o o' : List ℕ) (a : Answer) → Analyses b o a o' → a ≡ Accepted tt
      → (q q' : List ℕ) (c : Answer) → Plays b l q c q' → c ≡ Accepted tt
      → (i : ℕ) → i < b.n → TimesKept o' q' i
  outcomes_times = times_kept b l

  -- "the last commit is by the bound": the length of a play is at most the bound in bytes 6 and 7 of the result record
  pub outcomes_bound : (o o' : List ℕ) (a : Answer) → Analyses b o a o' → a ≡ Accepted tt
      → (k : ℕ) → GivesPlayLength b l (Accepted k) → k ≤ little 2 o' 6
  outcomes_bound = given_bound b l

  -- "One cycle of play takes the state and gives back the next": k accepted cycles from the first state give the cycle number
  -- k and the starts of a play of k cycles
  pub steps_play : (k : ℕ) (p : PlayState) → Steps b l k p → (p.t ≡ k) × (p.starts ≡ (play_on k b (chosen b l) first_state).starts)
  steps_play = stepping-play b l

  -- after 513 × n cycles the starts are those of the play
  pub steps_table : (p : PlayState) → Steps b l (cycles_each * b.n) p → p.starts ≡ play b (chosen b l)
  steps_table = stepping-table b l

  -- so they are those that a play writes
  pub steps_written : (o o' : List ℕ) (a : Answer) → Plays b l o a o' → a ≡ Accepted tt → (p : PlayState) → Steps b l (cycles_each * b.n) p
      → (v : ℕ) → v < nodes b → get_or p.starts v 0 ≡ get_or o' (play_place v 1) 0
  steps_written = stepping-written b l

-- and none of them is refused: before the first, the verdicts on block and list have to be given
pub steps_accepted : (b : Block) → AcceptedBlock b → (l : List ℕ) → AcceptedList b l → (k : ℕ) → k < cycles_each * b.n
    → (p : PlayState) → Steps b l k p → (r : Result PlayState RefusedCycle) → PlaysCycle b l p r → answer_of r ≡ Accepted tt
steps_accepted = stepping-accepted

-- ---- "Prove: rounds are at most contending pairs plus 1; no time exceeds 513 × n, so 30,780."
pub rounds_most : (b : Block) → round_count b ≤ pair_count b + 1
rounds_most = settled-most

-- no number of the window table; that this is at most 30,780 is in bound_limit
pub times_limit : (b : Block) → Whole b → AcceptedBlock b → (k : ℕ) → k < window_numbers b → get_or (window_table b) k 0 ≤ cycles_each * b.n
times_limit b whole accepted = table_few b accepted (λ i. (whole.each i).hi)

-- what the rounds come to: a pair that is apart after round k is apart after the next
pub apart_grows : (b : Block) → AcceptedBlock b → (k i j : ℕ) → i < b.n → j < b.n → apart_at b k i j ≡ true → apart_at b (suc k) i j ≡ true
apart_grows b accepted = next_apart b (ranges b accepted)

-- so the pairs that are kept are those that the last round's times show apart
pub apart_kept : (b : Block) → AcceptedBlock b → (k i j : ℕ) → i < b.n → j < b.n → has (known_at b (suc k)) i j ≡ apart_at b k i j
apart_kept b accepted k i j hi hj = known_apart b (ranges b accepted) i j hi hj k

-- and the number of pairs apart is that of the contending pairs which the windows' own times show apart
pub apart_shown : (b : Block) → AcceptedBlock b → apart_count b ≡ count b.n (apart_by b (windows b).late)
apart_shown b accepted = count_shown b (ranges b accepted)

-- the windows are those of the last of these rounds
pub windows_last : (b : Block) → ((windows b).late ≡ late_at b (round_count b - 1)) × ((windows b).known ≡ known_at b (round_count b - 1))
unfolding round_count
windows_last b = ((last_round b).late, (last_round b).known)

-- ---- "000's further rule, distance below W, then follows; prove that it does."
-- contenders are less than W apart
pub contend_near : (b : Block) → AcceptedBlock b → (i j : ℕ) → i < j → j < b.n → has (contending b) i j ≡ true → j < i + b.w
contend_near b accepted = model-near b (ranges b accepted)
