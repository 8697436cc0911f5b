-- Every play ends: no node of instruction i finishes after the cycles of i + 1 instructions. IF is ready when all before it have
-- finished; ID when the fetch is done, EX one cycle later. An earlier EX has then finished, and a later one holds the unit for
-- 254 cycles more at most. EX takes 255 at most, WB and CM one each. So the limits are the latest times of a round in which every
-- two EX may delay each other, and such times bound every schedule. Assumes nothing.
use Prim.Native.Nat.{ℕ, ◌+◌, ◌*◌, ◌≤◌, ◌<◌}
use mathlib.Core.Path.{◌≡◌, refl, ap}
use mathlib.Core.Bool.{Bool, true}
use mathlib.Core.Logic.{◌⊎◌, inl, inr}
use native.Mathlib.Omega.{arith}
use Rattle.lists.proofs.NumbersWhere.{largest_at_most}
use Rattle.record.specs.Refusals.{block_verdict}
use Rattle.record.specs.declared.Block.{Block}
use Rattle.record.proofs.AcceptedRanges.{Ranges, ranges}
use Rattle.model.specs.Nodes.{nodes, instruction, is_ex, entry, highest}
use Rattle.model.specs.Cycles.{State, cycles_each, most_cycles, start, finish, first_state, play_on, play}
use Rattle.model.proofs.Limits.{wait, longest, ready_limit, finish_limit, limits_grow, late, room, latency_longest, end_limit, highest_most}
use Rattle.schedules.specs.inside.Nets.{Net, Fits, Sched}
use Rattle.schedules.specs.inside.RoundInequalities.{base, early_last, Round}
use Rattle.schedules.proofs.RoundsBound.{bounded}
use Rattle.schedules.proofs.BlockNet.{net}
use Rattle.schedules.proofs.CycleTurns.{seen}
use Rattle.schedules.proofs.PlaySchedule.{sched_ended, Played, Stopped, first_played, play_on_played}

-- ---- the limits are a round's latest times

-- the block's net with 1 for the lowest latency of each node
abbrev pub limit_net : (b : Block) → Ranges b → Net
limit_net b A = net b A (λ v. 1) (λ v l. omega arith)

-- the limit of a node's start
abbrev pub start_limit : ℕ → ℕ
start_limit v = ready_limit v + late (is_ex v)

module _ (b : Block) (A : Ranges b) (cap : (i : ℕ) → (entry b i).hi ≤ 255) where
  -- every EX may delay every other
  abbrev delays : ℕ → ℕ → Bool
  delays v u = true

  -- the later ones add no more than an EX may wait
  later_most : (v : ℕ) → base (limit_net b A) delays (λ u. ready_limit u) v ≤ ready_limit v + wait
  unfolding base
  later_most v =
      omega (
        arith,
        largest_at_most (delays v) (highest b) (v + 1) (nodes b) longest (λ u _ l t. omega (arith, highest_most b A cap u, latency_longest u)),
      )

  -- and the earlier ones have finished by then
  earlier_most : (v : ℕ) → early_last delays (λ u. finish_limit u) v ≤ ready_limit v
  unfolding early_last
  earlier_most v = largest_at_most (delays v) (λ u. finish_limit u) 0 v (ready_limit v) (λ u _ l t. limits_grow u v l)

  pub limit_round : Round (limit_net b A) (λ v. 0) (λ u v. ⊥) delays delays (λ v. ready_limit v) start_limit (λ v. finish_limit v)
  limit_round =
      record {
        cover = λ v u lv lu xv xu k n. inl refl;
        later = λ v u lv lu c o e. refl;
        r_fin = λ u v l i. limits_grow u v ((limit_net b A).fin_lt u v i);
        r_ord = λ u v l i. omega (arith, limits_grow u v ((limit_net b A).ord_lt u v i), room u);
        ls_base = λ v l. omega arith;
        ls_ex = λ v l x m. let e = ap late x in omega (arith, later_most v, earlier_most v);
        lf = λ v l. omega (arith, highest_most b A cap v, room v);
      }

module _ (b : Block) (z : block_verdict b ≡ (0, 0)) (cap : (i : ℕ) → (entry b i).hi ≤ 255) (lat : ℕ → ℕ)
    (least : (v : ℕ) → v < nodes b → 1 ≤ lat v) (most : (v : ℕ) → v < nodes b → lat v ≤ highest b v) where
  abbrev A : Ranges b
  A = ranges b z

  fits : Fits (limit_net b A) lat
  fits = record { low = least; high = most }

  -- ---- the limits bound every state of a play
  pub played_limit : (p : State) → Played b (limit_net b A) lat p → (v : ℕ) → v < nodes b → seen p.t p.starts v + lat v ≤ finish_limit v
  played_limit p P v l =
      (bounded (limit_net b A) lat fits p.t (seen p.t p.starts) P.sched
      (λ v. 0) (record { least = λ v x l f o. omega arith }) (λ u v. ⊥) (λ u v lu lv h. absurd h)
      (λ v u. true) (λ v u. true) (λ v. ready_limit v) start_limit (λ v. finish_limit v) (limit_round b A cap) v l).finish

  -- the state in which the play stops
  abbrev pub last_state : State
  last_state = play_on most_cycles b lat first_state

  stops : Played b (limit_net b A) lat last_state × Stopped b most_cycles last_state
  unfolding first_state
  stops =
      play_on_played b A (λ v. 1) (λ v l. omega arith) lat fits most_cycles first_state (omega arith)
      (first_played b A (λ v. 1) (λ v l. omega arith) lat fits)

  -- ALL HAVE STARTED IN IT
  pub all_started_lem : (v : ℕ) → v < nodes b → start last_state.starts v < last_state.t
  all_started_lem v l = by_stop stops.1.at
    where
      by_stop : (last_state.t ≡ most_cycles) ⊎ ((u : ℕ) → u < nodes b → start last_state.starts u < last_state.t)
          → start last_state.starts v < last_state.t
      by_stop (inl e) = omega (arith, played_limit last_state stops.0 v l, end_limit v, least v l, A.n.1)
      by_stop (inr h) = h v l

  -- EVERY PLAY ENDS: NO NODE OF INSTRUCTION i FINISHES AFTER THE CYCLES OF i + 1 INSTRUCTIONS
  pub play_limit : (v : ℕ) → v < nodes b → finish lat (play b lat) v ≤ cycles_each * (instruction v + 1)
  unfolding play finish
  play_limit v l = omega (arith, played_limit last_state stops.0 v l, all_started_lem v l, end_limit v)

-- ---- the starts of a play are a schedule
module _ (b : Block) (z : block_verdict b ≡ (0, 0)) (cap : (i : ℕ) → (entry b i).hi ≤ 255)
    (lo : ℕ → ℕ) (pos : (v : ℕ) → v < nodes b → 1 ≤ lo v) (lat : ℕ → ℕ) (F : Fits (net b (ranges b z) lo pos) lat) where
  abbrev least : (v : ℕ) → v < nodes b → 1 ≤ lat v
  least v l = omega (arith, pos v l, F.low v l)

  pub play_started : (v : ℕ) → v < nodes b → start (play b lat) v < most_cycles
  unfolding finish
  play_started v l = omega (arith, play_limit b z cap lat least F.high v l, least v l, (ranges b z).n.1)

  -- EVERY PLAY IS A SCHEDULE
  pub play_sched : Sched (net b (ranges b z) lo pos) lat most_cycles (start (play b lat))
  unfolding play first_state
  play_sched =
      let G : Net = net b (ranges b z) lo pos in
      let p : State = play_on most_cycles b lat first_state in
      let P = play_on_played b (ranges b z) lo pos lat F most_cycles first_state (omega arith) (first_played b (ranges b z) lo pos lat F) in
      sched_ended G lat p.t most_cycles (seen p.t p.starts) (start p.starts)
      (λ v l. omega (arith, all_started_lem b z cap lat least F.high v l))
      (λ v l. omega (arith, all_started_lem b z cap lat least F.high v l))
      (λ v l. omega (arith, play_started v l))
      P.0.sched
