-- Stepping is playing: k accepted cycles from the first state leave the starts that a play of k cycles has, and none of the
-- cycles of a play is refused; so the starts after 513 × n cycles are those of the play table. Assumes nothing.
--
-- Why: a play stops where all have started, and whoever steps goes on. But a node that has started does not begin again, so a
-- cycle after that changes no start, only the cycle number.
use Prim.Native.Nat.{ℕ, zero, suc, ◌+◌, ◌*◌, ◌≤◌, ◌<◌}
use mathlib.Core.Path.{◌≡◌, refl, sym, ap, ◌∙◌}
use mathlib.Core.Bool.{Bool, true, false, not, and-false}
use mathlib.Core.List.{List, []}
use mathlib.Core.Logic.{inl, inr}
use native.Mathlib.Omega.{arith}
use lib.ListN.{length, get_or, length-replicate, get_or-replicate}
use lib.Dec.{ltb, eqb}
use borrow.Author.Tests.{lt-ltb, lt-leb, ltb-true, ltb-false, eq-eqb}
use Rattle.lists.specs.Lists.{pick}
use Rattle.lists.proofs.Bools.{by_test}
use Rattle.record.specs.Refusals.{verdict, block_tests, header_test, entry_test}
use Rattle.record.specs.Promises.{Whole}
use Rattle.record.specs.Refusals.{Answer}
use Rattle.std.specs.Prelude.{Result, Ok as Accepted}
use Rattle.record.specs.declared.Block.{Block}
use Rattle.record.proofs.AcceptedRanges.{ranges}
use Rattle.record.proofs.Answers.{meaning_one}
use Rattle.record.proofs.Verdicts.{none, pass, after_accepted}
use Rattle.model.specs.Nodes.{nodes, chosen}
use Rattle.model.specs.Cycles.{State, cycles_each, most_cycles, last_cycle, not_started, start, unfit, cycle, first_state, all_started, play_on, play, three_times, play_place}
use Rattle.model.proofs.TableNumbers.{play_at}
use Rattle.schedules.proofs.CycleTurns.{Known, begun as begun-turn, turns_length, turns_later, turns_below, turns_none, started_stays}
use Rattle.schedules.proofs.PlaySchedule.{all_started_each, each_all_started, all_started_stays}
use Rattle.play.specs.Refusals.{list_test, latency_test, state_test, list_tests, cycle_tests}
use Rattle.play.specs.Promises.{state_of, answer_of, stepped, PlaysCycle, Plays}
use Rattle.play.specs.inside.StartTest.{unfit_at}
use Rattle.play.specs.declared.PlayState.{PlayState}
use Rattle.play.specs.declared.RefusedCycle.{RefusedCycle}
use Rattle.play.proofs.Outcomes.{cycle_fine}
use Rattle.play.proofs.UnfitStates.{unfit_none}
use Rattle.theorems.specs.Words.{AcceptedBlock, AcceptedList, Steps, begun, on}
use Rattle.theorems.proofs.PlaysInside.{last_play, chosen_fits}
use Rattle.theorems.proofs.TablesWithin.{play_kept}

-- ---- k cycles from the state p, also where all have started
cycles : ℕ → Block → (ℕ → ℕ) → State → State
cycles zero b lat p = p
cycles (suc k) b lat p = cycles k b lat (cycle b lat p)

module _ (b : Block) (lat : ℕ → ℕ) where
  cycles_last : (k : ℕ) (p : State) → cycles (suc k) b lat p ≡ cycle b lat (cycles k b lat p)
  unfolding cycles
  cycles_last zero p = refl
  cycles_last (suc k) p = cycles_last k (cycle b lat p)

  cycles_number : (k : ℕ) (p : State) → (cycles k b lat p).t ≡ p.t + k
  unfolding cycles cycle
  cycles_number zero p = omega arith
  cycles_number (suc k) p = omega (arith, cycles_number k (cycle b lat p))

  -- where all have started, a cycle changes no start
  quiet_cycle : (p : State) → all_started b p ≡ true → (cycle b lat p).starts ≡ p.starts
  unfolding cycle
  quiet_cycle p e =
      turns_none b lat p.t p.starts (nodes b) (λ v h. started_stays b lat p.t p.starts v (all_started_each b p e v h))

  still_started : (p : State) → all_started b p ≡ true → all_started b (cycle b lat p) ≡ true
  still_started p e = each_all_started b (cycle b lat p) (λ v h. rw (quiet_cycle p e) (all_started_each b p e v h))

  quiet_cycles : (k : ℕ) (p : State) → all_started b p ≡ true → (cycles k b lat p).starts ≡ p.starts
  unfolding cycles
  quiet_cycles zero p e = refl
  quiet_cycles (suc k) p e = quiet_cycles k (cycle b lat p) (still_started p e) ∙ quiet_cycle p e

  -- the starts are those of a play, which stops there
  cycles_play : (k : ℕ) (p : State) → (cycles k b lat p).starts ≡ (play_on k b lat p).starts
  unfolding cycles play_on
  cycles_play zero p = refl
  cycles_play (suc k) p =
      by_test (all_started b p)
      (λ e. rw e (quiet_cycles (suc k) p e))
      (λ e. rw e (cycles_play k (cycle b lat p)))

-- ---- a state that cycles may reach: a start lies before the cycle number, and only the nodes of the block have one
record Reached (b : Block) (p : State) : Type 0 where
  long : length p.starts ≡ 300
  known : (v : ℕ) → v < nodes b → Known p.t (start p.starts v)
  others : (v : ℕ) → nodes b ≤ v → v < 300 → start p.starts v ≡ not_started

module _ (b : Block) (few : b.n ≤ 60) where
  first_reached : Reached b first_state
  unfolding first_state
  first_reached =
      record {
        long = length-replicate 300 not_started;
        known = λ v h. inr (get_or-replicate 300 v not_started 0 (omega arith));
        others = λ v _ h. get_or-replicate 300 v not_started 0 h;
      }

  module _ (lat : ℕ → ℕ) where
    cycle_reached : (p : State) → Reached b p → Reached b (cycle b lat p)
    unfolding cycle
    cycle_reached p P =
        record {
          long = turns_length b lat p.t p.starts (nodes b) ∙ P.long;
          known = λ v h.
              rw (turns_below b lat p.t p.starts (nodes b) v h (omega (arith, P.long)))
              (by_turn (begun-turn b lat p.t p.starts v) (P.known v h));
          others = λ v h l. turns_later b lat p.t p.starts (nodes b) v h ∙ P.others v h l;
        }
      where
        by_turn : {x : ℕ} (begins : Bool) → Known p.t x → Known (p.t + 1) (pick begins p.t x)
        by_turn true k = inl (omega arith)
        by_turn false (inl k) = inl (omega arith)
        by_turn false (inr k) = inr k

    cycles_reached : (k : ℕ) (p : State) → Reached b p → Reached b (cycles k b lat p)
    unfolding cycles
    cycles_reached zero p P = P
    cycles_reached (suc k) p P = cycles_reached k (cycle b lat p) (cycle_reached p P)

  -- it is fit up to the last cycle
  reached_fit : (p : State) → p.t ≤ last_cycle → Reached b p → unfit b p ≡ false
  unfolding unfit_at
  reached_fit p early P =
      unfit_none b p P.long (nodes b) refl early few
      (λ v l.
      by_test (ltb v (nodes b))
      (λ e. let h = ltb-true v (nodes b) e in known_fit v h (P.known v h))
      (λ e. unstarted_fit v (P.others v (ltb-false v (nodes b) e) l)))
    where
      unstarted_fit : (v : ℕ) → start p.starts v ≡ not_started → unfit_at p.t (nodes b) v (start p.starts v) ≡ false
      unstarted_fit v e = rw (eq-eqb (start p.starts v) not_started e) refl

      known_fit : (v : ℕ) → v < nodes b → Known p.t (start p.starts v) → unfit_at p.t (nodes b) v (start p.starts v) ≡ false
      known_fit v h (inl k) =
          rw (lt-ltb (start p.starts v) p.t k, lt-leb (nodes b) v h) (and-false (not (eqb (start p.starts v) not_started)))
      known_fit v h (inr k) = unstarted_fit v k

-- a block and a list that are accepted, and a fit state
cycle_verdict : (b : Block) (l : List ℕ) (p : State) → AcceptedBlock b → AcceptedList b l → unfit b p ≡ false
    → verdict (cycle_tests b l p) ≡ (0, 0)
unfolding cycle_tests block_tests header_test entry_test list_tests list_test latency_test state_test
cycle_verdict b l p accepted listed fit =
    after_accepted (block_tests b) _ accepted ∙ after_accepted (list_tests b l) _ listed ∙ pass (state_test b p) [] fit ∙ none

-- ---- stepping
module _ (b : Block) (l : List ℕ) where
  -- an accepted cycle gives back the next state
  accepted_next : (p q : PlayState) → PlaysCycle b l p (Accepted q) → state_of q ≡ cycle b (chosen b l) (state_of p)
  unfolding stepped
  accepted_next p q x = x.state ∙ (rw (← x.answer) refl)

  steps_cycles : {k : ℕ} {p : PlayState} → Steps b l k p → state_of p ≡ cycles k b (chosen b l) first_state
  unfolding cycles
  steps_cycles (begun e) = e
  steps_cycles (on {k} {p} {q} s x) =
      accepted_next p q x ∙ ap (cycle b (chosen b l)) (steps_cycles s) ∙ sym (cycles_last b (chosen b l) k first_state)

  steps_number : {k : ℕ} {p : PlayState} → Steps b l k p → p.t ≡ k
  unfolding first_state
  steps_number {k} s = ap (λ (x : State). x.t) (steps_cycles s) ∙ omega (arith, cycles_number b (chosen b l) k first_state)

  -- STEPPING IS PLAYING
  pub steps_play : (k : ℕ) (p : PlayState) → Steps b l k p → (p.t ≡ k) × (p.starts ≡ (play_on k b (chosen b l) first_state).starts)
  steps_play k p s = (steps_number s, ap (λ (x : State). x.starts) (steps_cycles s) ∙ cycles_play b (chosen b l) k first_state)

-- ---- no cycle of a play is refused
module _ (b : Block) (accepted : AcceptedBlock b) (l : List ℕ) (listed : AcceptedList b l) where
  few : b.n ≤ 60
  few = (ranges b accepted).n.1

  steps_reached : {k : ℕ} {p : PlayState} → Steps b l k p → Reached b (state_of p)
  steps_reached {k} s = rw (steps_cycles b l s) (cycles_reached b few (chosen b l) k first_state (first_reached b few))

  -- up to the last cycle
  pub steps_on : (k : ℕ) → k < most_cycles → (p : PlayState) → Steps b l k p → (r : Result PlayState RefusedCycle) → PlaysCycle b l p r → answer_of r ≡ Accepted tt
  steps_on k h p s r x =
      let fit : unfit b (state_of p) ≡ false = reached_fit b few (state_of p) (omega (arith, steps_number b l s)) (steps_reached s) in
      meaning_one (answer_of r) (Accepted tt) (x.answer ∙ cycle_verdict b l (state_of p) accepted listed fit)

  -- a play has no more of them than 513 × n cycles
  pub steps_accepted : (k : ℕ) → k < cycles_each * b.n → (p : PlayState) → Steps b l k p → (r : Result PlayState RefusedCycle) → PlaysCycle b l p r → answer_of r ≡ Accepted tt
  steps_accepted k h = steps_on k (omega (arith, few))

-- ---- after 513 × n cycles the starts are those of the play

-- what an accepted cycle says of the block and of the list
record Fit (b : Block) (l : List ℕ) : Type 0 where
  whole : Whole b
  accepted : AcceptedBlock b
  listed : AcceptedList b l

steps_fit : (b : Block) (l : List ℕ) {k : ℕ} {p : PlayState} → 0 < k → Steps b l k p → Fit b l
steps_fit b l h (begun e) = absurd (omega arith)
steps_fit b l h (on {k} {p} {q} s x) =
    let c = cycle_fine b l p (sym x.answer) in
    record { whole = x.whole; accepted = c.0; listed = c.1 }

-- a block of no instructions has all started from the first
none_started : (b : Block) (lat : ℕ → ℕ) → b.n ≤ 0 → (k : ℕ) → play_on k b lat first_state ≡ first_state
none_started b lat h k = all_started_stays b lat k first_state (each_all_started b first_state (λ v l. absurd (omega arith)))

pub steps_table : (b : Block) (l : List ℕ) (p : PlayState) → Steps b l (cycles_each * b.n) p → p.starts ≡ play b (chosen b l)
unfolding play
steps_table b l p s =
    (steps_play b l (cycles_each * b.n) p s).1
    ∙ by_test (ltb 0 b.n)
    (λ t.
    let x = steps_fit b l (omega (arith, ltb-true 0 b.n t)) s in
    sym (last_play b x.accepted (λ i. (x.whole.each i).hi) (chosen b l) (chosen_fits b x.accepted l x.listed)))
    (λ t.
    let few = ltb-false 0 b.n t in
    ap (λ (q : State). q.starts) (none_started b (chosen b l) few (cycles_each * b.n) ∙ sym (none_started b (chosen b l) few most_cycles)))

-- and those that a play writes
pub steps_written : (b : Block) (l o o' : List ℕ) (a : Answer) → Plays b l o a o' → a ≡ Accepted tt → (p : PlayState) → Steps b l (cycles_each * b.n) p
    → (v : ℕ) → v < nodes b → get_or p.starts v 0 ≡ get_or o' (play_place v 1) 0
unfolding three_times
steps_written b l o o' a x e p s v h =
    ap (λ (q : List ℕ). get_or q v 0) (steps_table b l p s)
    ∙ sym (play_kept b l o o' a x e (play_place v 1) (omega arith) ∙ play_at b (chosen b l) v 1 h (omega arith))
