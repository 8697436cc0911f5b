-- Every play of the model is a schedule, seen at the cycle number of its state: each node has its start, or that number
-- where it has not started. A play stops where all have started, or after the cycles that it is allowed. Assumes nothing.
--
-- Why: before cycle 0 nothing has started, and there is nothing to claim. Each cycle takes a schedule to a schedule
-- (next_sched, turns_next). Where all have started, the cycle number of the state no longer matters, and the starts alone are
-- a schedule at every later time.
use Prim.Native.Nat.{ℕ, zero, suc, ◌+◌, ◌≤◌, ◌<◌}
use mathlib.Core.Path.{◌≡◌, refl, sym, ap}
use mathlib.Core.Bool.{Bool, true, not}
use mathlib.Core.Logic.{◌⊎◌, inl, inr}
use native.Mathlib.Omega.{arith}
use native.Mathlib.Nat.{zero-add, suc-add}
use native.Mathlib.Numerals.{add-one}
use lib.ListN.{length, replicate, length-replicate, get_or-replicate}
use borrow.Author.Tests.{not-true, not-false}
use Rattle.lists.proofs.Bools.{by_test}
use Rattle.lists.proofs.Least.{exists_not, exists_none}
use Rattle.lists.proofs.NumbersWhere.{length_fewer}
use Rattle.record.specs.declared.Block.{Block}
use Rattle.record.proofs.AcceptedRanges.{Ranges}
use Rattle.model.specs.Nodes.{nodes}
use Rattle.model.specs.Cycles.{State, not_started, start, started, turns, cycle, first_state, all_started, play_on}
use Rattle.schedules.specs.inside.Nets.{Net, Fits, Done, busy, count_busy, Sched}
use Rattle.schedules.proofs.NetLaws.{busy→, →busy}
use Rattle.schedules.proofs.ScheduleStep.{empty_sched, next_sched}
use Rattle.schedules.proofs.BlockNet.{net}
use Rattle.schedules.proofs.CycleTurns.{seen, Known, started_not, turns_length}
use Rattle.schedules.proofs.CycleStep.{turns_next, turns_known}

-- ---- a schedule in which all have started is one at every horizon that lies above the starts
module _ (G : Net) (lat : ℕ → ℕ) where
  -- s and r agree on the nodes
  abbrev Same : (ℕ → ℕ) → (ℕ → ℕ) → Type 0
  Same s r = (v : ℕ) → v < G.N → s v ≡ r v

  done_same : (s r : ℕ → ℕ) → Same s r → (v x : ℕ) → v < G.N → Done G lat s v x → Done G lat r v x
  done_same s r e v x l d =
      record {
        fin = λ u i. let o = G.fin_lt u v i in omega (arith, d.fin u i, e u (omega arith));
        ord = λ u i. let o = G.ord_lt u v i in omega (arith, d.ord u i, e u (omega arith));
      }

  busy_same : (s r : ℕ → ℕ) → Same s r → (v t : ℕ) → count_busy G lat s v t ≤ count_busy G lat r v t
  busy_same s r e v t =
      length_fewer (busy G lat s v t) (busy G lat r v t) 0 G.N
      (λ u _ l h.
      let k = busy→ G lat s v t u h in
      let q = e u l in
      →busy G lat r v t u
      (record { ex = k.ex; same = k.same; runs = omega (arith, k.runs); begun = omega (arith, k.begun); tie = λ y. omega (arith, k.tie y) }))

  pub sched_ended : (H K : ℕ) (s r : ℕ → ℕ) → Same s r → ((v : ℕ) → v < G.N → s v < H) → ((v : ℕ) → v < G.N → r v ≤ K)
      → Sched G lat H s → Sched G lat K r
  sched_ended H K s r e ended top P =
      record {
        top = top;
        ready = λ v l h. rw (← e v l) (done_same s r e v (s v) l (P.ready v l (ended v l)));
        prompt = λ v t l x h d. P.prompt v t l x (omega (arith, e v l)) (done_same r s back v t l d);
        waits = λ v t l x h d. omega (arith, P.waits v t l x (omega (arith, e v l)) (done_same r s back v t l d), busy_same s r e v t);
        room = λ v l x h. rw (← e v l) (omega (arith, P.room v l x (ended v l), busy_same r s back v (s v)));
      }
    where
      back : Same r s
      back v l = sym (e v l)

-- ---- all have started
module _ (b : Block) (p : State) where
  abbrev waits : ℕ → Bool
  waits v = not (started p.starts v)

  pub all_started_each : all_started b p ≡ true → (v : ℕ) → v < nodes b → started p.starts v ≡ true
  unfolding all_started
  all_started_each e v l = not-false _ (exists_not 0 (nodes b) waits (not-true _ e) v (omega arith) l)

  pub each_all_started : ((v : ℕ) → v < nodes b → started p.starts v ≡ true) → all_started b p ≡ true
  unfolding all_started
  each_all_started h = ap not (exists_none 0 (nodes b) waits (omega arith) (λ v _ l. ap not (h v l)))

-- ---- where all have started, a play goes no further
module _ (b : Block) (lat : ℕ → ℕ) where
  pub all_started_stays : (m : ℕ) (p : State) → all_started b p ≡ true → play_on m b lat p ≡ p
  unfolding play_on
  all_started_stays zero p h = refl
  all_started_stays (suc m) p h = rw h refl

  pub all_started_more : (m k : ℕ) (p : State) → all_started b (play_on m b lat p) ≡ true → play_on (m + k) b lat p ≡ play_on m b lat p
  unfolding play_on
  all_started_more zero k p h = rw (zero-add k) (all_started_stays k p h)
  all_started_more (suc m) k p h =
      rw (suc-add m k)
      (by_test (all_started b p) (λ t. rw t refl) (λ f. rw f (all_started_more m k (cycle b lat p) (rw f at h))))

-- what every state of a play is, in the net G of block b: it has a cell for each node, a start lies before its cycle
-- number, and the starts as they are seen are a schedule
pub record Played (b : Block) (G : Net) (lat : ℕ → ℕ) (p : State) : Type 0 where
  pub long : nodes b ≤ length p.starts
  pub known : (v : ℕ) → v < nodes b → Known p.t (start p.starts v)
  pub sched : Sched G lat p.t (seen p.t p.starts)

-- where a play stops: in cycle `most`, or where all have started
pub record Stopped (b : Block) (most : ℕ) (p : State) : Type 0 where
  pub at : (p.t ≡ most) ⊎ ((v : ℕ) → v < nodes b → start p.starts v < p.t)

module _ (b : Block) (A : Ranges b) (lo : ℕ → ℕ) (pos : (v : ℕ) → v < nodes b → 1 ≤ lo v) (lat : ℕ → ℕ) (F : Fits (net b A lo pos) lat) where
  abbrev G : Net
  G = net b A lo pos

  pub first_played : Played b G lat first_state
  unfolding first_state
  first_played =
      record {
        long = omega (arith, A.n.1, length-replicate 300 not_started);
        known = λ v l. inr (none v l);
        sched = empty_sched G lat (seen 0 (replicate 300 not_started)) (λ v l. omega (arith, none v l));
      }
    where
      none : (v : ℕ) → v < nodes b → start (replicate 300 not_started) v ≡ not_started
      none v l = get_or-replicate 300 v not_started 0 (omega (arith, A.n.1))

  pub cycle_played : (p : State) → p.t < not_started → Played b G lat p → Played b G lat (cycle b lat p)
  unfolding cycle
  cycle_played p early P =
      rw (add-one p.t)
      (record {
        long = omega (arith, P.long, turns_length b lat p.t p.starts (nodes b));
        known = turns_known b A lo pos lat p.t early p.starts P.long P.known;
        sched =
            next_sched G lat F p.t (seen p.t p.starts) (seen (suc p.t) (turns b lat p.t p.starts (nodes b))) P.sched
            (turns_next b A lo pos lat p.t early p.starts P.long P.known);
      })

  all_started_below : (p : State) → Played b G lat p → all_started b p ≡ true → (v : ℕ) → v < nodes b → start p.starts v < p.t
  all_started_below p P e v l = start_below (P.known v l)
    where
      start_below : Known p.t (start p.starts v) → start p.starts v < p.t
      start_below (inl k) = k
      start_below (inr k) = absurd (started_not p.starts v (all_started_each b p e v l) k)

  -- EVERY PLAY IS A SCHEDULE
  pub play_on_played : (k : ℕ) (p : State) → p.t + k ≤ not_started → Played b G lat p
      → Played b G lat (play_on k b lat p) × Stopped b (p.t + k) (play_on k b lat p)
  unfolding play_on
  play_on_played zero p h P = (P, record { at = inl (omega arith) })
  play_on_played (suc k) p h P =
      by_test (all_started b p)
      (λ e. rw e (P, record { at = inr (all_started_below p P e) }))
      (λ e. rw e (one_cycle_more (play_on_played k (cycle b lat p) (omega (arith, later)) (cycle_played p (omega arith) P))))
    where
      later : (cycle b lat p).t ≡ p.t + 1
      later = unfold cycle in refl

      one_cycle_more : Played b G lat (play_on k b lat (cycle b lat p)) × Stopped b ((cycle b lat p).t + k) (play_on k b lat (cycle b lat p))
          → Played b G lat (play_on k b lat (cycle b lat p)) × Stopped b (p.t + suc k) (play_on k b lat (cycle b lat p))
      one_cycle_more r = let q : (cycle b lat p).t + k ≡ p.t + suc k = omega (arith, later) in (r.0, (rw q at r).1)
