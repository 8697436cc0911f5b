-- Every play of an accepted block is a schedule that fits its net; so it stays inside the windows, in every cycle. Assumes
-- nothing.
use Prim.Native.Nat.{ℕ, ◌+◌, ◌-◌, ◌*◌, ◌≤◌, ◌<◌}
use mathlib.Core.Path.{◌≡◌, ap, ◌∙◌}
use mathlib.Core.Bool.{true}
use mathlib.Core.List.{List}
use mathlib.Core.Logic.{◌⊎◌, inl, inr}
use native.Mathlib.Omega.{arith}
use native.Mathlib.Nat.{zero-add}
use lib.Dec.{leb}
use borrow.Author.Tests.{leb-true, leb-false}
use Rattle.lists.proofs.Bools.{by_test}
use Rattle.record.specs.declared.Block.{Block}
use Rattle.record.proofs.AcceptedRanges.{Ranges, ranges}
use Rattle.model.specs.Nodes.{CM, nodes, node, entry, instruction, fetch, lowest, highest, chosen}
use Rattle.model.specs.Cycles.{State, cycles_each, most_cycles, not_started, start, started, finish, first_state, all_started, play_on, play, play_length, ready}
use Rattle.model.specs.Rounds.{earliest, R, windows, bound}
use Rattle.model.proofs.TimesInOrder.{earliest_is}
use Rattle.model.proofs.Limits.{windows_limit}
use Rattle.model.proofs.Latencies.{latency_mono, lowest_some, lowest_highest}
use Rattle.schedules.specs.inside.Nets.{Fits, Sched}
use Rattle.schedules.proofs.RoundsBound.{early_ready}
use Rattle.schedules.proofs.BlockNet.{ready_done, done_ready}
use Rattle.schedules.proofs.CycleTurns.{seen, started_yes}
use Rattle.schedules.proofs.PlaySchedule.{each_all_started, all_started_more, Played, Stopped, first_played, play_on_played}
use Rattle.schedules.proofs.PlayEnds.{play_started, play_sched}
use Rattle.play.proofs.LatencyList.{ranged}
use Rattle.theorems.specs.Words.{AcceptedBlock, AcceptedList, Inside, StartsInTime}
use Rattle.theorems.proofs.ModelRounds.{G, earliest_early}
use Rattle.theorems.proofs.WindowsBound.{Late, windows_bound}

-- no latest start reaches 513 × n cycles
pub late_below : (b : Block) (accepted : AcceptedBlock b) → ((i : ℕ) → (entry b i).hi ≤ 255) → (v : ℕ) → v < nodes b
    → start (windows b).late v < cycles_each * b.n
unfolding finish
late_below b accepted cap v l =
    let A = ranges b accepted in
    omega (arith, windows_limit b A cap v l, lowest_some b A v l, lowest_highest b A v l)

-- ---- any latencies from the lowest to the highest
module _ (b : Block) (accepted : AcceptedBlock b) (cap : (i : ℕ) → (entry b i).hi ≤ 255) (lat : ℕ → ℕ) (fits : Fits (G b (ranges b accepted)) lat) where
  abbrev A : Ranges b
  A = ranges b accepted

  -- the starts at the end
  sched : Sched (G b A) lat most_cycles (start (play b lat))
  sched = play_sched b accepted cap (lowest b) (lowest_some b A) lat fits

  begins_below : (v : ℕ) → v < nodes b → start (play b lat) v < most_cycles
  begins_below = play_started b accepted cap (lowest b) (lowest_some b A) lat fits

  -- a node is ready when it starts
  ready_start : (v : ℕ) → v < nodes b → ready b lat (play b lat) v ≤ start (play b lat) v
  ready_start v l =
      done_ready b A (lowest b) (lowest_some b A) lat (play b lat) v (start (play b lat) v) (sched.ready v l (begins_below v l))

  early_first : (v : ℕ) → v < nodes b → start (earliest b) v ≤ ready b lat (play b lat) v
  early_first v l =
      early_ready (G b A) lat fits most_cycles (start (play b lat)) sched (start (earliest b)) (earliest_early b A) v (ready b lat (play b lat) v) l
      (omega (arith, ready_start v l, begins_below v l))
      (ready_done b A (lowest b) (lowest_some b A) lat (play b lat) v (ready b lat (play b lat) v) (omega arith))

  by_windows : (v : ℕ) → v < nodes b → Late b A lat fits most_cycles (start (play b lat)) sched (windows b).late v
  by_windows = windows_bound b A lat fits most_cycles (start (play b lat)) sched

  late_ready : (v : ℕ) → v < nodes b → ready b lat (play b lat) v ≤ R b (windows b).late v
  late_ready v l = done_ready b A (lowest b) (lowest_some b A) lat (play b lat) v (R b (windows b).late v) (by_windows v l).ready

  pub play_inside : (v : ℕ) → v < nodes b → Inside b lat v
  unfolding finish
  play_inside v l =
      record {
        ready_in = record { from = omega (arith, earliest_is b A v l, early_first v l); to = late_ready v l };
        start_in = record { from = omega (arith, early_first v l, ready_start v l); to = (by_windows v l).start };
        finish_in = record { from = omega (arith, early_first v l, ready_start v l, fits.low v l); to = (by_windows v l).finish };
      }

  -- the last commit is by the bound
  pub length_bound : play_length b lat ≤ bound b
  unfolding play_length bound
  length_bound = (play_inside (node CM (b.n - 1)) (omega (arith, A.n.0))).finish_in.to

  -- ---- the state after k cycles, or the one in which all have started if that is sooner
  module _ (k : ℕ) (few : k ≤ most_cycles) where
    abbrev state : State
    state = play_on k b lat first_state

    stopped : Played b (G b A) lat state × Stopped b k state
    unfolding first_state
    stopped =
        rw (zero-add k) at
        (play_on_played b A (lowest b) (lowest_some b A) lat fits k first_state (omega arith) (first_played b A (lowest b) (lowest_some b A) lat fits))

    -- what has started did so by its latest start, and what has not is not past it
    seen_by : (v : ℕ) → v < nodes b → seen state.t state.starts v ≤ start (windows b).late v
    seen_by v l = (windows_bound b A lat fits state.t (seen state.t state.starts) stopped.0.sched v l).start

    -- so what has its latest start before k has started
    few_in_time : (v : ℕ) → v < nodes b → start (windows b).late v < k → started state.starts v ≡ true
    few_in_time v l h = started_yes state.starts v (omega (arith, stopped.0.long)) (by_stop stopped.1.at)
      where
        by_stop : (state.t ≡ k) ⊎ ((u : ℕ) → u < nodes b → start state.starts u < state.t) → start state.starts v < not_started
        by_stop (inl e) = omega (arith, seen_by v l)
        by_stop (inr all) = omega (arith, seen_by v l, all v l)

  -- ---- after 513 × n cycles
  last_few : cycles_each * b.n ≤ most_cycles
  last_few = omega (arith, A.n.1)

  abbrev last : State
  last = play_on (cycles_each * b.n) b lat first_state

  all_started_lem : (v : ℕ) → v < nodes b → started last.starts v ≡ true
  all_started_lem v l = few_in_time (cycles_each * b.n) last_few v l (late_below b accepted cap v l)

  pub last_all_started : all_started b last ≡ true
  last_all_started = each_all_started b last all_started_lem

  -- and the play goes no further
  past_last : (k : ℕ) → cycles_each * b.n ≤ k → play_on k b lat first_state ≡ last
  past_last k h =
      let e : k ≡ cycles_each * b.n + (k - cycles_each * b.n) = omega arith in
      ap (λ (j : ℕ). play_on j b lat first_state) e ∙ all_started_more b lat (cycles_each * b.n) (k - cycles_each * b.n) first_state last_all_started

  pub last_play : play b lat ≡ last.starts
  unfolding play
  last_play = ap (λ (p : State). p.starts) (past_last most_cycles last_few)

  -- so nothing waits past its latest start, however many cycles are played
  pub starts_in_time : StartsInTime b lat
  starts_in_time k v l h =
      by_test (leb k most_cycles) (λ t. few_in_time k (leb-true k most_cycles t) v l (omega arith))
      (λ t. ap (λ (p : State). started p.starts v) (past_last k (omega (arith, leb-false k most_cycles t, last_few))) ∙ all_started_lem v l)

-- ---- the latencies that an accepted list chooses
pub chosen_fits : (b : Block) (accepted : AcceptedBlock b) (l : List ℕ) → AcceptedList b l → Fits (G b (ranges b accepted)) (chosen b l)
unfolding lowest highest chosen
chosen_fits b accepted l listed =
    record {
      low = λ v h. latency_mono fetch _ _ v (ranged b l listed (instruction v) (omega arith)).0;
      high = λ v h. latency_mono fetch _ _ v (ranged b l listed (instruction v) (omega arith)).1;
    }
