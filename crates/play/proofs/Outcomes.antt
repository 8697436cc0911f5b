-- The outcomes of the operations of the play, by the first test that fails; each promise leaves one. Assumes nothing.
use Prim.Native.Nat.{ℕ, ◌*◌, ◌≤◌}
use mathlib.Core.Path.{◌≡◌, refl, sym, ap, ◌∙◌}
use mathlib.Core.Bool.{true, false}
use mathlib.Core.List.{List, [], ◌∷◌, ◌++◌, append_assoc}
use native.Mathlib.Omega.{arith}
use lib.ListN.{length, drop}
use lib.Dec.{leb}
use borrow.Author.Tests.{leb-true, not-false}
use Rattle.lists.proofs.OneOutcome.{one_value}
use Rattle.std.specs.Prelude.{Result, Ok as Accepted, Err as Refused}
use Rattle.record.specs.Refusals.{Answer, Test, number_of, place_of, meaning, verdict, accepts, header_test, entry_test, output_test, block_tests, block_verdict}
use Rattle.record.specs.Promises.{Whole}
use Rattle.record.specs.declared.Block.{Block}
use Rattle.record.specs.declared.Reason.{Reason}
use Rattle.record.proofs.Verdicts.{none, refuse, pass, passed, both_accepted, after_accepted, after_refused}
use Rattle.record.proofs.Answers.{number_above, refused_not, answered_one, result_one}
use Rattle.model.specs.Nodes.{chosen}
use Rattle.model.specs.Cycles.{State, first_state, cycle, unfit, play_length, play_table}
use Rattle.unpacked.proofs.BlockInstructions.{few}
use Rattle.play.specs.Refusals.{list_test, latency_test, state_test, list_tests, cycle_tests, play_tests, length_tests}
use Rattle.play.specs.Promises.{state_of, stepped, played, answer_of, state_after, PlaysCycle, Plays, GivesPlayLength}
use Rattle.play.specs.declared.PlayState.{PlayState}
use Rattle.play.specs.declared.RefusedCycle.{RefusedCycle}
use Rattle.play.proofs.LatencyList.{room_right}

-- ---- values of the code by their parts
abbrev play_state : State → PlayState
play_state s = record { t = s.t; starts = s.starts }

-- a state is one value
pub state_one : (p q : PlayState) → state_of p ≡ state_of q → p ≡ q
state_one p q e = ap play_state e

-- the first state has one outcome
pub first_one : (p q : PlayState) → state_of p ≡ first_state → state_of q ≡ first_state → p ≡ q
first_one p q e f = state_one p q (one_value (state_of p) (state_of q) e f)

-- an outcome of a cycle is its answer and its state
abbrev outcome_of : Answer → PlayState → Result PlayState RefusedCycle
outcome_of (Accepted x) p = Accepted p
outcome_of (Refused r) p = Refused (record { reason = r; state = p })

outcome_whole : (x : Result PlayState RefusedCycle) → outcome_of (answer_of x) (state_after x) ≡ x
outcome_whole (Accepted q) = refl
outcome_whole (Refused e) = refl

-- ---- tests after others

-- the number of a refusal, which is no acceptance
module _ (v : ℕ × ℕ) (r : Reason) (a : Answer) (e : a ≡ Refused r) (h : meaning a ≡ v) where
  refused_number : v.0 ≡ number_of r
  refused_number = ap (λ (p : ℕ × ℕ). p.0) (sym h ∙ ap meaning e)

  refused_out : accepts v ≡ false
  refused_out = rw refused_number (refused_not r)

-- a refusal stands whatever tests come after those that give it
refused_stays : (ts us : List Test) (r : Reason) (a : Answer) → a ≡ Refused r → meaning a ≡ verdict ts → meaning a ≡ verdict (ts ++ us)
refused_stays ts us r a e h = h ∙ sym (after_refused ts us _ (refused_number (verdict ts) r a e h ∙ number_above r))

-- ---- the length of a play
module _ (b : Block) (l : List ℕ) where
  pub both_refused : (r : Reason) (a : Answer) → a ≡ Refused r → meaning a ≡ block_verdict b → meaning a ≡ verdict (length_tests b l)
  unfolding length_tests
  both_refused r a e h = refused_stays (block_tests b) (list_tests b l) r a e h

  pub both_listed : block_verdict b ≡ (0, 0) → verdict (length_tests b l) ≡ verdict (list_tests b l)
  unfolding length_tests block_tests header_test entry_test
  both_listed z = after_accepted (block_tests b) (list_tests b l) z

  -- for the output's test there is room enough
  pub room_enough : block_verdict b ≡ (0, 0) → verdict (length_tests b l) ≡ verdict (output_test (leb (15 * b.n) 900) ∷ list_tests b l)
  room_enough z = both_listed z ∙ sym (room_right b l 900 (omega (arith, few b z)))

  -- what an accepted one is
  pub length_fine : verdict (length_tests b l) ≡ (0, 0) → (block_verdict b ≡ (0, 0)) × (verdict (list_tests b l) ≡ (0, 0))
  unfolding length_tests block_tests header_test entry_test
  length_fine z = both_accepted (block_tests b) (list_tests b l) z

module _ (b : Block) (l : List ℕ) (w : Whole b) where
  pub length_refused : (r : Reason) → (number_of r, place_of r) ≡ verdict (length_tests b l) → GivesPlayLength b l (Refused r)
  length_refused r h = record { whole = w; answer = h; cycles = tt }

  pub length_done : (x : ℕ) → verdict (length_tests b l) ≡ (0, 0) → x ≡ play_length b (chosen b l) → GivesPlayLength b l (Accepted x)
  length_done x z f = record { whole = w; answer = sym z; cycles = f }

module _ (b : Block) (l : List ℕ) where
  -- asking for the length has one outcome
  pub length_one : (x y : Result ℕ Reason) → GivesPlayLength b l x → GivesPlayLength b l y → x ≡ y
  length_one x y p q = result_one (play_length b (chosen b l)) x y (one_value (meaning x) (meaning y) p.answer q.answer) p.cycles q.cycles

-- ---- one cycle
module _ (b : Block) (l : List ℕ) (p : PlayState) where
  -- its tests are those of the length, and then that of the state
  cycle_tests_lem : cycle_tests b l (state_of p) ≡ length_tests b l ++ (state_test b (state_of p) ∷ [])
  unfolding cycle_tests length_tests
  cycle_tests_lem = sym (append_assoc (block_tests b) (list_tests b l) (state_test b (state_of p) ∷ []))

  past_lists : verdict (length_tests b l) ≡ (0, 0) → verdict (cycle_tests b l (state_of p)) ≡ verdict (state_test b (state_of p) ∷ [])
  unfolding length_tests list_tests block_tests header_test entry_test list_test latency_test
  past_lists z = ap verdict cycle_tests_lem ∙ after_accepted (length_tests b l) _ z

module _ (b : Block) (l : List ℕ) (p : PlayState) (w : Whole b) where
  -- its answer, by the first test that fails
  pub listed_refused : (r : Reason) → (number_of r, place_of r) ≡ verdict (length_tests b l) → meaning {A = Unit {0}} (Refused r) ≡ verdict (cycle_tests b l (state_of p))
  listed_refused r h = refused_stays (length_tests b l) _ r (Refused r) refl h ∙ ap verdict (sym (cycle_tests_lem b l p))

  pub unfit_refused : verdict (length_tests b l) ≡ (0, 0) → unfit b (state_of p) ≡ true → (9, 0) ≡ verdict (cycle_tests b l (state_of p))
  unfolding state_test
  unfit_refused z h = sym (past_lists b l p z ∙ refuse (state_test b (state_of p)) [] h)

  pub fit_accepted : verdict (length_tests b l) ≡ (0, 0) → unfit b (state_of p) ≡ false → (0, 0) ≡ verdict (cycle_tests b l (state_of p))
  unfolding state_test
  fit_accepted z h = sym (past_lists b l p z ∙ pass (state_test b (state_of p)) [] h ∙ none)

  -- the outcome, by its answer
  pub cycle_refused : (r : Reason) → (number_of r, place_of r) ≡ verdict (cycle_tests b l (state_of p))
      → PlaysCycle b l p (Refused (record { reason = r; state = p }))
  unfolding stepped
  cycle_refused r f = record { whole = w; answer = f; state = rw (refused_out _ r (Refused r) refl f) refl }

  pub cycle_done : (q : PlayState) → (0, 0) ≡ verdict (cycle_tests b l (state_of p)) → state_of q ≡ cycle b (chosen b l) (state_of p)
      → PlaysCycle b l p (Accepted q)
  unfolding stepped
  cycle_done q f g = record { whole = w; answer = f; state = rw (← f) g }

module _ (b : Block) (l : List ℕ) (p : PlayState) where
  -- what an accepted one is
  pub cycle_fine : verdict (cycle_tests b l (state_of p)) ≡ (0, 0)
      → (block_verdict b ≡ (0, 0)) × (verdict (list_tests b l) ≡ (0, 0)) × (unfit b (state_of p) ≡ false)
  unfolding length_tests list_tests block_tests header_test entry_test list_test latency_test state_test
  cycle_fine z =
      let x = both_accepted (length_tests b l) (state_test b (state_of p) ∷ []) (ap verdict (sym (cycle_tests_lem b l p)) ∙ z) in
      let y = length_fine b l x.0 in
      (y.0, y.1, (passed (state_test b (state_of p)) [] x.1).0)

  -- a cycle has one outcome
  pub cycle_one : (x y : Result PlayState RefusedCycle) → PlaysCycle b l p x → PlaysCycle b l p y → x ≡ y
  cycle_one x y u v =
      let o = answered_one (answer_of x) (answer_of y) (state_of (state_after x)) (state_of (state_after y)) u.answer u.state v.answer v.state in
      let s = state_one (state_after x) (state_after y) o.1 in
      sym (outcome_whole x) ∙ ap (λ (a : Answer). outcome_of a (state_after x)) o.0 ∙ ap (λ (q : PlayState). outcome_of (answer_of y) q) s ∙ outcome_whole y

-- ---- the play table
module _ (b : Block) (l o : List ℕ) where
  abbrev room : Test
  room = output_test (leb (15 * b.n) (length o))

  past_block : block_verdict b ≡ (0, 0) → verdict (play_tests b l o) ≡ verdict (room ∷ list_tests b l)
  unfolding play_tests block_tests header_test entry_test
  past_block z = after_accepted (block_tests b) (room ∷ list_tests b l) z

module _ (b : Block) (l o : List ℕ) (w : Whole b) where
  untouched : (r : Reason) (a : Answer) → a ≡ Refused r → meaning a ≡ verdict (play_tests b l o) → Plays b l o a o
  unfolding played
  untouched r a e h = record { whole = w; answer = h; output = rw (refused_out _ r a e h) refl }

  pub play_refused : (r : Reason) (a : Answer) → a ≡ Refused r → meaning a ≡ block_verdict b → Plays b l o a o
  unfolding play_tests
  play_refused r a e h = untouched r a e (refused_stays (block_tests b) _ r a e h)

  pub play_lent : (r : Reason) (a : Answer) → block_verdict b ≡ (0, 0) → a ≡ Refused r → meaning a ≡ verdict (room b l o ∷ list_tests b l) → Plays b l o a o
  play_lent r a z e f = untouched r a e (f ∙ sym (past_block b l o z))

  pub play_done : block_verdict b ≡ (0, 0) → verdict (room b l o ∷ list_tests b l) ≡ (0, 0) → (p : List ℕ)
      → p ≡ play_table b (chosen b l) ++ drop (15 * b.n) o → Plays b l o (Accepted tt) p
  unfolding played
  play_done z y p e =
      let f : verdict (play_tests b l o) ≡ (0, 0) = past_block b l o z ∙ y in
      record { whole = w; answer = sym f; output = rw f e }

module _ (b : Block) (l o : List ℕ) where
  -- what an accepted output and list are
  pub lent_fine : verdict (room b l o ∷ list_tests b l) ≡ (0, 0) → (15 * b.n ≤ length o) × (verdict (list_tests b l) ≡ (0, 0))
  unfolding output_test
  lent_fine z = let y = passed (room b l o) (list_tests b l) z in (leb-true _ _ (not-false _ y.0), y.1)

  -- what an accepted one is
  pub play_fine : verdict (play_tests b l o) ≡ (0, 0) → (block_verdict b ≡ (0, 0)) × (15 * b.n ≤ length o) × (verdict (list_tests b l) ≡ (0, 0))
  unfolding play_tests block_tests header_test entry_test
  play_fine z =
      let x = both_accepted (block_tests b) (room b l o ∷ list_tests b l) z in
      let y = lent_fine x.1 in
      (x.0, y.0, y.1)

  -- playing has one outcome
  pub play_one : (x y : Answer) (p q : List ℕ) → Plays b l o x p → Plays b l o y q → (x ≡ y) × (p ≡ q)
  play_one x y p q u v = answered_one x y p q u.answer u.output v.answer v.output
