-- "How much each promise has to say": what each operation promises of its outcome.
use Rattle.std.specs.Prelude.{◌≡◌, List, ◌++◌, ℕ, drop, Result, IfOk, Ok as Accepted, Err as Refused}
use Rattle.lists.specs.Lists.{pick}
use Rattle.record.specs.Refusals.{Answer, meaning, verdict, accepts}
use Rattle.record.specs.Promises.{Whole}
use Rattle.record.specs.declared.Block.{Block}
use Rattle.record.specs.declared.Reason.{Reason}
use Rattle.model.specs.Nodes.{chosen}
use Rattle.model.specs.Cycles.{State, cycle, play_length, play_numbers, play_table}
use Rattle.play.specs.Refusals.{cycle_tests, play_tests, length_tests}
use Rattle.play.specs.declared.PlayState.{PlayState}
use Rattle.play.specs.declared.RefusedCycle.{RefusedCycle}

-- the state that a value of the code is
abbrev pub state_of : PlayState → State
state_of p = record { t = p.t; starts = p.starts }

-- the state after a cycle. "A refused cycle gives back the state it got"
unfoldable pub stepped : Block → List ℕ → State → State
stepped b l p = pick (accepts (verdict (cycle_tests b l p))) (cycle b (chosen b l) p) p

-- what the output of a play holds at the end. "Numbers beyond those stay untouched."
unfoldable pub played : Block → List ℕ → List ℕ → List ℕ
played b l o = pick (accepts (verdict (play_tests b l o))) (play_table b (chosen b l) ++ drop (play_numbers b) o) o

-- what a cycle answers, and the state that it gives or gives back
abbrev pub answer_of : Result PlayState RefusedCycle → Answer
answer_of (Accepted q) = Accepted tt
answer_of (Refused e) = Refused e.reason

abbrev pub state_after : Result PlayState RefusedCycle → PlayState
state_after (Accepted q) = q
state_after (Refused e) = e.state

-- one cycle of the block b with the latencies l from the state p: the answer is the verdict, and the state is the next or
-- the very one
pub record PlaysCycle (b : Block) (l : List ℕ) (p : PlayState) (r : Result PlayState RefusedCycle) : Type 0 where
  pub whole : Whole b
  pub answer : meaning (answer_of r) ≡ verdict (cycle_tests b l (state_of p))
  pub state : state_of (state_after r) ≡ stepped b l (state_of p)

-- playing to an output that held o and then holds o': the answer is the verdict, and the output has the play table or is
-- untouched
pub record Plays (b : Block) (l o : List ℕ) (a : Answer) (o' : List ℕ) : Type 0 where
  pub whole : Whole b
  pub answer : meaning a ≡ verdict (play_tests b l o)
  pub output : o' ≡ played b l o

-- asking for the length: the answer is the verdict, and the number is the length. A refusal has none beside it
pub record GivesPlayLength (b : Block) (l : List ℕ) (r : Result ℕ Reason) : Type 0 where
  pub whole : Whole b
  pub answer : meaning r ≡ verdict (length_tests b l)
  pub cycles : IfOk r (λ k. k ≡ play_length b (chosen b l))
