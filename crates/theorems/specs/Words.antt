-- "How much each promise has to say", demand 3, and "Plausible errors to shut out": the words of the theorems. Which blocks and
-- latency lists they speak of, and what it is to be inside a window, in time, and later than under the highest latencies; to be
-- reached by steps, and to keep the times of a result record.
use Rattle.std.specs.Prelude.{ℕ, zero, suc, ◌+◌, ◌*◌, ◌≤◌, ◌<◌, ◌≡◌, true, List, [], ◌∷◌, get_or}
use Rattle.lists.specs.Lists.{tab}
use Rattle.lists.specs.Bytes.{little}
use Rattle.record.specs.Refusals.{verdict, block_verdict}
use Rattle.record.specs.Promises.{Whole}
use Rattle.std.specs.Prelude.{Ok as Accepted}
use Rattle.record.specs.declared.Block.{Block}
use Rattle.model.specs.Nodes.{EX, CM, nodes, node, entry, lowest, highest, chosen}
use Rattle.model.specs.Cycles.{start, started, finish, ready, first_state, play_on, play, play_length, play_place}
use Rattle.model.specs.Rounds.{earliest, R, windows, bound}
use Rattle.model.specs.Blocks.{block_e}
use Rattle.play.specs.Refusals.{list_tests}
use Rattle.play.specs.Promises.{state_of, PlaysCycle}
use Rattle.play.specs.declared.PlayState.{PlayState}

-- a block that tests 4 and 5 accept
abbrev pub AcceptedBlock : Block → Type 0
AcceptedBlock b = block_verdict b ≡ (0, 0)

-- a latency list that tests 7 and 8 accept
abbrev pub AcceptedList : Block → List ℕ → Type 0
AcceptedList b l = verdict (list_tests b l) ≡ (0, 0)

-- a time and its window
pub record Within (early time late : ℕ) : Type 0 where
  pub from : early ≤ time
  pub to : time ≤ late

-- "per node, earliest ready, start, finish, then latest ready, start, finish": ready, start and finish of node v in the
-- play under the latencies lat, each within its window
pub record Inside (b : Block) (lat : ℕ → ℕ) (v : ℕ) : Type 0 where
  pub ready_in : Within (ready b (lowest b) (earliest b) v) (ready b lat (play b lat) v) (R b (windows b).late v)
  pub start_in : Within (start (earliest b) v) (start (play b lat) v) (start (windows b).late v)
  pub finish_in : Within (finish (lowest b) (earliest b) v) (finish lat (play b lat) v) (finish (highest b) (windows b).late v)

-- "nothing waits past its latest start": after k cycles whatever has a latest start below k has started
abbrev pub StartsInTime : Block → (ℕ → ℕ) → Type 0
StartsInTime b lat = (k v : ℕ) → v < nodes b → start (windows b).late v < k → started (play_on k b lat first_state).starts v ≡ true

-- "all the highest latencies"
unfoldable pub longest : Block → List ℕ
longest b = tab b.n (λ i. (entry b i).hi)

-- a block that ends at `end` under them, and at its bound, which is later, under the list l
pub record Anomaly (b : Block) (l : List ℕ) (end late : ℕ) : Type 0 where
  pub whole : Whole b
  pub accepted : AcceptedBlock b
  pub longest_listed : AcceptedList b (longest b)
  pub listed : AcceptedList b l
  pub under_longest : play_length b (chosen b (longest b)) ≡ end
  pub under_list : play_length b (chosen b l) ≡ late
  pub bounded : bound b ≡ late
  pub sooner : end < late

-- "playing E with first latency 1 ends at 27, and with 4 at 23", and 27 is its bound
abbrev pub AnomalyOfE : Type 0
AnomalyOfE = Anomaly block_e (1 ∷ 4 ∷ 4 ∷ 12 ∷ []) 23 27

-- "One cycle of play takes the state and gives back the next": p is reached from the first state by k cycles, each accepted,
-- whatever value that keeps the promise of a cycle was given back
pub data Steps (b : Block) (l : List ℕ) : ℕ → PlayState → Type 0 where
  begun : {p : PlayState} → state_of p ≡ first_state → Steps b l zero p
  on : {k : ℕ} {p q : PlayState} → Steps b l k p → PlaysCycle b l p (Accepted q) → Steps b l (suc k) q

-- "per instruction four 16-bit numbers of its EX and CM: EX earliest start, EX latest start, EX latest finish, CM latest
-- finish": of instruction i, o having the result record and q the play table, EX starts between the first two and finishes by
-- the third, and CM finishes by the fourth
pub record TimesKept (o q : List ℕ) (i : ℕ) : Type 0 where
  pub starts : Within (little 2 o (28 + 8 * i)) (get_or q (play_place (node EX i) 1) 0) (little 2 o (28 + 8 * i + 2))
  pub finishes : get_or q (play_place (node EX i) 2) 0 ≤ little 2 o (28 + 8 * i + 4)
  pub commits : get_or q (play_place (node CM i) 2) 0 ≤ little 2 o (28 + 8 * i + 6)
