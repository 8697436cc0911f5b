-- One cycle takes a schedule of H cycles to one of H + 1. Assumes nothing.
--
-- Why: what started before H keeps its start, so for times before H nothing changes: the same nodes are ready by then, and the
-- same nodes run. What is left is time H. A node that starts at H may: it is ready by H, and fewer of its kind run than there
-- are units. A node that is left at H may not: off EX it is not ready by H; at EX it is not, or all units are taken. These are
-- the claims of a schedule at H.
use Prim.Native.Nat.{ℕ, zero, suc, ◌≤◌, ◌<◌}
use mathlib.Core.Path.{◌≡◌, sym, ◌∙◌}
use mathlib.Core.Bool.{true, false, false≢true}
use mathlib.Core.Logic.{◌⊎◌, ⊎_elim}
use native.Mathlib.Omega.{arith}
use native.Mathlib.Decide.{dec_le, dec_lt}
use Rattle.lists.proofs.NumbersWhere.{length_fewer}
use Rattle.schedules.specs.inside.Nets.{Net, Fits, Done, busy, count_busy, Sched}
use Rattle.schedules.proofs.NetLaws.{done_mono, busy→, →busy}

-- v may start in cycle H of a play whose starts, with those of this cycle so far, are s'
pub record May (G : Net) (lat : ℕ → ℕ) (H : ℕ) (s' : ℕ → ℕ) (v : ℕ) : Type 0 where
  pub ready : Done G lat s' v H
  pub unit : G.ex v ≡ true → count_busy G lat s' v H < G.units (G.kind v)

-- the cycle H takes the starts s to s'
pub record Next (G : Net) (lat : ℕ → ℕ) (H : ℕ) (s s' : ℕ → ℕ) : Type 0 where
  pub keep : (v : ℕ) → v < G.N → s v < H → s' v ≡ s v
  pub fresh : (v : ℕ) → v < G.N → H ≤ s v → ((s' v ≡ H) × May G lat H s' v) ⊎ ((s' v ≡ suc H) × (May G lat H s' v → ⊥))

-- before the first cycle
pub empty_sched : (G : Net) (lat s : ℕ → ℕ) → ((v : ℕ) → v < G.N → s v ≤ zero) → Sched G lat zero s
empty_sched G lat s z =
    record {
      top = z;
      ready = λ v l h. absurd (omega arith);
      prompt = λ v t l x h d. omega (arith, z v l);
      waits = λ v t l x h d. absurd (omega (arith, z v l));
      room = λ v l x h. absurd (omega arith);
    }

module _ (G : Net) (lat : ℕ → ℕ) (F : Fits G lat) (H : ℕ) (s s' : ℕ → ℕ) (P : Sched G lat H s) (X : Next G lat H s s') where
  -- before H the two agree
  same_below : (v : ℕ) → v < G.N → s' v < H → s v ≡ s' v
  same_below v l h = by_start (dec_le H (s v))
    where
      by_start : Dec (H ≤ s v) → s v ≡ s' v
      by_start (yes g) = ⊎_elim (λ q. absurd (omega (arith, q.0))) (λ q. absurd (omega (arith, q.0))) (X.fresh v l g)
      by_start (no g) = sym (X.keep v l (omega arith))

  at_most : (v : ℕ) → v < G.N → s' v ≤ suc H
  at_most v l = by_start (dec_le H (s v))
    where
      by_start : Dec (H ≤ s v) → s' v ≤ suc H
      by_start (yes g) = ⊎_elim (λ q. omega (arith, q.0)) (λ q. omega (arith, q.0)) (X.fresh v l g)
      by_start (no g) = omega (arith, X.keep v l (omega arith))

  -- what runs at a time before H is the same in both
  busy_back : (v t : ℕ) → t < H → (u : ℕ) → u < G.N → busy G lat s' v t u ≡ true → busy G lat s v t u ≡ true
  busy_back v t h u l k =
      let b = busy→ G lat s' v t u k in
      let q = same_below u l (omega (arith, b.begun)) in
      →busy G lat s v t u
      (record { ex = b.ex; same = b.same; runs = omega (arith, b.runs); begun = omega (arith, b.begun); tie = λ y. omega (arith, b.tie y) })

  busy_on : (v t : ℕ) → t < H → (u : ℕ) → u < G.N → busy G lat s v t u ≡ true → busy G lat s' v t u ≡ true
  busy_on v t h u l k =
      let b = busy→ G lat s v t u k in
      let q = X.keep u l (omega (arith, b.begun)) in
      →busy G lat s' v t u
      (record { ex = b.ex; same = b.same; runs = omega (arith, b.runs); begun = omega (arith, b.begun); tie = λ y. omega (arith, b.tie y) })

  done_back : (v t : ℕ) → v < G.N → t < H → Done G lat s' v t → Done G lat s v t
  done_back v t l h d =
      record {
        fin = λ u f. let o = G.fin_lt u v f in let lu : u < G.N = omega arith in
            omega (arith, d.fin u f, same_below u lu (omega (arith, d.fin u f, F.low u lu, G.lo_pos u lu)));
        ord = λ u f. let o = G.ord_lt u v f in let lu : u < G.N = omega arith in
            omega (arith, d.ord u f, same_below u lu (omega (arith, d.ord u f)));
      }

  done_on : (v t : ℕ) → v < G.N → t < H → Done G lat s v t → Done G lat s' v t
  done_on v t l h d =
      record {
        fin = λ u f. let o = G.fin_lt u v f in let lu : u < G.N = omega arith in
            omega (arith, d.fin u f, X.keep u lu (omega (arith, d.fin u f, F.low u lu, G.lo_pos u lu)));
        ord = λ u f. let o = G.ord_lt u v f in let lu : u < G.N = omega arith in
            omega (arith, d.ord u f, X.keep u lu (omega (arith, d.ord u f)));
      }

  -- what started at H might, and what is left could not
  at_H : (v : ℕ) → v < G.N → s' v ≡ H → May G lat H s' v
  at_H v l e = by_start (dec_le H (s v))
    where
      by_start : Dec (H ≤ s v) → May G lat H s' v
      by_start (yes g) = ⊎_elim (λ q. q.1) (λ q. absurd (omega (arith, q.0))) (X.fresh v l g)
      by_start (no g) = absurd (omega (arith, X.keep v l (omega arith)))

  left : (v : ℕ) → v < G.N → H < s' v → May G lat H s' v → ⊥
  left v l e m = by_start (dec_le H (s v))
    where
      by_start : Dec (H ≤ s v) → ⊥
      by_start (yes g) = ⊎_elim (λ q. omega (arith, q.0)) (λ q. q.1 m) (X.fresh v l g)
      by_start (no g) = omega (arith, X.keep v l (omega arith))

  before : (v t : ℕ) → v < G.N → t < H → t < s' v → t < s v
  before v t l h g = by_start (dec_le H (s v))
    where
      by_start : Dec (H ≤ s v) → t < s v
      by_start (yes k) = omega arith
      by_start (no k) = omega (arith, X.keep v l (omega arith))

  -- THE STEP
  pub next_sched : Sched G lat (suc H) s'
  next_sched =
      record {
        top = at_most;
        ready = ready;
        prompt = prompt;
        waits = waits;
        room = room;
      }
    where
      ready : (v : ℕ) → v < G.N → s' v < suc H → Done G lat s' v (s' v)
      ready v l h = by_time (dec_lt (s' v) H)
        where
          by_time : Dec (s' v < H) → Done G lat s' v (s' v)
          by_time (yes k) = let q = same_below v l k in rw (← q) (done_on v (s v) l (omega arith) (P.ready v l (omega arith)))
          by_time (no k) = let q : s' v ≡ H = omega arith in rw q (at_H v l q).ready

      prompt : (v t : ℕ) → v < G.N → G.ex v ≡ false → t < s' v → Done G lat s' v t → ⊥
      prompt v t l x h d = by_time (dec_lt t H)
        where
          by_time : Dec (t < H) → ⊥
          by_time (yes k) = P.prompt v t l x (before v t l k h) (done_back v t l k d)
          by_time (no k) =
              let g = at_most v l in
              left v l (omega arith) (record { ready = done_mono G lat s' v t H (omega arith) d; unit = λ y. absurd (false≢true (sym x ∙ y)) })

      waits : (v t : ℕ) → v < G.N → G.ex v ≡ true → t < s' v → Done G lat s' v t → G.units (G.kind v) ≤ count_busy G lat s' v t
      waits v t l x h d = by_time (dec_lt t H)
        where
          at_end : Dec (count_busy G lat s' v H < G.units (G.kind v)) → t ≡ H → G.units (G.kind v) ≤ count_busy G lat s' v t
          at_end (yes k) q = absurd (left v l (omega arith) (record { ready = done_mono G lat s' v t H (omega arith) d; unit = λ y. k }))
          at_end (no k) q = rw q (omega arith)

          by_time : Dec (t < H) → G.units (G.kind v) ≤ count_busy G lat s' v t
          by_time (yes k) =
              omega (
                arith,
                P.waits v t l x (before v t l k h) (done_back v t l k d),
                length_fewer (busy G lat s v t) (busy G lat s' v t) 0 G.N (λ u _ l. busy_on v t k u l),
              )
          by_time (no k) = let g = at_most v l in at_end (dec_lt (count_busy G lat s' v H) (G.units (G.kind v))) (omega arith)

      room : (v : ℕ) → v < G.N → G.ex v ≡ true → s' v < suc H → count_busy G lat s' v (s' v) < G.units (G.kind v)
      room v l x h = by_time (dec_lt (s' v) H)
        where
          by_time : Dec (s' v < H) → count_busy G lat s' v (s' v) < G.units (G.kind v)
          by_time (yes k) =
              let q = same_below v l k in
              omega (
                arith,
                rw q at (P.room v l x (omega arith)),
                length_fewer (busy G lat s' v (s' v)) (busy G lat s v (s' v)) 0 G.N (λ u _ l. busy_back v (s' v) k u l),
              )
          by_time (no k) = let q : s' v ≡ H = omega arith in rw q ((at_H v l q).unit x)
