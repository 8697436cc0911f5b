-- Every round's latest times bound every schedule, and so the windows do. Assumes nothing.
--
-- Why: a round bounds every schedule if the pairs that it takes for apart are so in that schedule: one of the two has
-- finished before the other can be ready. In the first round there are no such pairs. A pair that is found after a round
-- has one's latest finish at most the other's earliest ready. That round bounds the schedule, so the one finishes by its
-- latest finish; and no schedule is before the earliest times. So the next round takes only such pairs for apart too.
use Prim.Native.Nat.{ℕ, zero, suc, ◌+◌, ◌-◌, ◌≤◌, ◌<◌}
use mathlib.Core.Path.{◌≡◌, ap}
use mathlib.Core.Bool.{true}
use mathlib.Core.List.{List}
use mathlib.Core.Logic.{◌⊎◌, inl, inr}
use native.Mathlib.Omega.{arith}
use Rattle.lists.proofs.Bools.{and_right}
use Rattle.record.specs.declared.Block.{Block}
use Rattle.record.proofs.AcceptedRanges.{Ranges}
use Rattle.model.specs.Nodes.{nodes, instruction, is_ex, highest}
use Rattle.model.specs.Paths.{has, contending}
use Rattle.model.specs.Cycles.{start, finish}
use Rattle.model.specs.Rounds.{earliest, R, apart, windows}
use Rattle.model.proofs.RoundRules.{Clear, apart_clear}
use Rattle.schedules.specs.inside.Nets.{Fits, Sched}
use Rattle.schedules.specs.inside.RoundInequalities.{Separates, Bounded}
use Rattle.schedules.proofs.RoundsBound.{bounded}
use Rattle.theorems.specs.RoundByRound.{known_at, late_at, apart_by}
use Rattle.theorems.proofs.KnownPairs.{found, none_first, found_apart, kept_or_found, last_round}
use Rattle.theorems.proofs.ModelRounds.{G, earliest_early, ex_node, delays, Parted, model_round}

module _ (b : Block) (A : Ranges b) (lat : ℕ → ℕ) (F : Fits (G b A) lat) (H : ℕ) (s : ℕ → ℕ) (P : Sched (G b A) lat H s) where
  -- the latest starts t, with the ready times and finishes that they give, bound it
  abbrev pub Late : List ℕ → ℕ → Type 0
  Late t = Bounded (G b A) lat s (λ v. R b t v) (start t) (λ v. start t v + highest b v)

  -- the pairs known in round k are apart in it
  abbrev Sound : ℕ → Type 0
  Sound k = Separates (G b A) lat s (start (earliest b)) (Parted (known_at b k))

  module _ (k : ℕ) (S : Sound k) where
    abbrev late : List ℕ
    late = late_at b k

    bounds : (v : ℕ) → v < nodes b → Late late v
    unfolding late_at
    bounds =
        bounded (G b A) lat F H s P (start (earliest b)) (earliest_early b A) (Parted (known_at b k)) S
        (delays b (known_at b k)) (delays b (known_at b k)) (λ v. R b late v) (start late) (λ v. start late v + highest b v)
        (model_round b (known_at b k) A)

    by_finish : (v : ℕ) → v < nodes b → s v + lat v ≤ finish (highest b) late v
    unfolding finish
    by_finish v l = (bounds v l).finish

    -- a pair that is found after the round
    found_sound : (u v : ℕ) → u < nodes b → v < nodes b → is_ex u ≡ true → is_ex v ≡ true
        → Clear b (earliest b) late (instruction v) (instruction u)
        → (s u + lat u ≤ start (earliest b) v) ⊎ (s v + lat v ≤ start (earliest b) u)
    found_sound u v lu lv xu xv (inl c) =
        inr (omega (arith, by_finish v lv, c, ap (finish (highest b) late) (ex_node v xv), ap (start (earliest b)) (ex_node u xu)))
    found_sound u v lu lv xu xv (inr c) =
        inl (omega (arith, by_finish u lu, c, ap (finish (highest b) late) (ex_node u xu), ap (start (earliest b)) (ex_node v xv)))

    -- so the pairs known in the next round are apart too
    next_sound : Sound (suc k)
    unfolding apart_by
    next_sound u v lu lv p = by_round (kept_or_found b k i j (omega arith) (omega arith) p.known_so)
      where
        i : ℕ
        i = instruction v

        j : ℕ
        j = instruction u

        by_round : (has (known_at b k) i j ≡ true) ⊎ (found b k i j ≡ true)
            → (s u + lat u ≤ start (earliest b) v) ⊎ (s v + lat v ≤ start (earliest b) u)
        by_round (inl t) = S u v lu lv (record { u_ex = p.u_ex; v_ex = p.v_ex; known_so = t })
        by_round (inr t) =
            let c = and_right (has (contending b) i j) (apart b (earliest b) late i j) (found_apart b k i j t) in
            found_sound u v lu lv p.u_ex p.v_ex (apart_clear b (earliest b) late i j c)

  sound : (k : ℕ) → Sound k
  sound zero = λ u v lu lv p. absurd (none_first b (instruction v) (instruction u) p.known_so)
  sound (suc k) = next_sound k (sound k)

  -- EVERY ROUND BOUNDS EVERY SCHEDULE, AND SO THE WINDOWS DO
  pub windows_bound : (v : ℕ) → v < nodes b → Late (windows b).late v
  windows_bound = let k = (windows b).rounds - 1 in rw (last_round b).late (bounds k (sound k))
