-- A round's latest times bound every schedule, and earliest times bound it from below. Assumes nothing.
use Prim.Native.Nat.{ℕ, zero, suc, ◌+◌, ◌*◌, ◌-◌, ◌/◌, ◌≤◌, ◌<◌, max}
use mathlib.Core.Path.{◌≡◌, refl, sym, ap, ◌∙◌}
use mathlib.Core.Bool.{Bool, true, false, not, ◌&&◌, and-false}
use mathlib.Core.List.{List, map}
use mathlib.Core.Logic.{◌⊎◌, inl, inr, ⊎_elim}
use native.Mathlib.Omega.{arith}
use native.Mathlib.Decide.{dec_le}
use native.Mathlib.Nat.{le-div_iff_mul-le}
use lib.ListN.{length}
use borrow.Author.Tests.{ne_eqb}
use Rattle.lists.specs.Lists.{numbers_where}
use Rattle.lists.specs.inside.Kept.{kept}
use Rattle.lists.specs.Sums.{sum}
use Rattle.lists.proofs.Bools.{by_test}
use Rattle.lists.proofs.Sums.{sum_mono}
use Rattle.lists.proofs.NumbersWhere.{numbers_where_back, numbers_where_in, numbers_where_find, largest_at, numbers_where_ext, numbers_where_kept, length_fewer}
use Rattle.schedules.specs.inside.Nets.{Net, Fits, Way, by_fin, by_ord, then_fin, then_ord, Done, busy, count_busy, Busy, Sched}
use Rattle.schedules.specs.inside.RoundInequalities.{Early, Separates, base, early_sum, early_last, other, Round, Bounded}
use Rattle.schedules.proofs.Counting.{area}
use Rattle.schedules.proofs.NetLaws.{done_mono, busy→, →busy}

-- ---- a schedule of H cycles
module _ (G : Net) (lat : ℕ → ℕ) (F : Fits G lat) (H : ℕ) (s : ℕ → ℕ) (P : Sched G lat H s) where
  -- what a node that is ready before the horizon waited for has finished
  pub done_of_way : (u v x : ℕ) → v < G.N → G.ex u ≡ true → Way G u v → Done G lat s v x → x < H → s u + lat u ≤ x
  done_of_way u v x l e (by_fin f) d h = d.fin u f
  done_of_way u v x l e (by_ord f) d h = absurd (G.ex_ord u v e f)
  done_of_way u v x l e (then_fin {x = y} w f) d h =
      let ly : y < G.N = omega (arith, G.fin_lt y v f) in
      let by : s y < x = omega (arith, d.fin y f, G.lo_pos y ly, F.low y ly) in
      omega (arith, done_of_way u y (s y) ly e w (P.ready y ly (omega arith)) (omega arith))
  done_of_way u v x l e (then_ord {x = y} w f) d h =
      let ly : y < G.N = omega (arith, G.ord_lt y v f) in
      let by : s y ≤ x = d.ord y f in
      omega (arith, done_of_way u y (s y) ly e w (P.ready y ly (omega arith)) (omega arith))

  module _ (ER : ℕ → ℕ) (A : Early G ER) where
    -- EARLIEST TIMES ARE LOWER BOUNDS, for the start of what has started and for the time by which a node is ready
    early_below : (k v : ℕ) → v < k → v < G.N → (x : ℕ) → x < H → Done G lat s v x → ER v ≤ x
    early_below zero v b l x h d = absurd (omega arith)
    early_below (suc k) v b l x h d = A.least v x l (λ u f. fin u f (early_below k u)) (λ u f. ord u f (early_below k u))
      where
        fin : (u : ℕ) → G.Fin u v → (u < k → u < G.N → (y : ℕ) → y < H → Done G lat s u y → ER u ≤ y) → ER u + G.lo u ≤ x
        fin u f ih =
            let lu : u < v = G.fin_lt u v f in
            let ln : u < G.N = omega arith in
            let q : s u + lat u ≤ x = d.fin u f in
            let w : s u < H = omega (arith, F.low u ln, G.lo_pos u ln) in
            omega (arith, ih (omega arith) ln (s u) w (P.ready u ln w), F.low u ln)

        ord : (u : ℕ) → G.Ord u v → (u < k → u < G.N → (y : ℕ) → y < H → Done G lat s u y → ER u ≤ y) → ER u ≤ x
        ord u f ih =
            let lu : u < v = G.ord_lt u v f in
            let ln : u < G.N = omega arith in
            let q : s u ≤ x = d.ord u f in
            omega (arith, ih (omega arith) ln (s u) (omega arith) (P.ready u ln (omega arith)))

    pub early_ready : (v x : ℕ) → v < G.N → x < H → Done G lat s v x → ER v ≤ x
    early_ready v x l h d = early_below (suc v) v (omega arith) l x h d

    pub early_start : (v : ℕ) → v < G.N → s v < H → ER v ≤ s v
    early_start v l h = early_ready v (s v) l h (P.ready v l h)

module _ (G : Net) (lat : ℕ → ℕ) (F : Fits G lat) (H : ℕ) (s : ℕ → ℕ) (P : Sched G lat H s)
    (ER : ℕ → ℕ) (A : Early G ER) (Apart : ℕ → ℕ → Type 0) (sep : Separates G lat s ER Apart) where
  module _ (con late : ℕ → ℕ → Bool) (R LS LF : ℕ → ℕ) (Q : Round G ER Apart con late R LS LF) (v : ℕ) (l : v < G.N) (e : G.ex v ≡ true) where
    -- what runs while v waits may delay it
    busy_con : (t u : ℕ) → u < G.N → Done G lat s v t → t < s v → busy G lat s v t u ≡ true → con v u ≡ true
    busy_con t u lu d w h = by_cover (Q.cover v u l lu e b.ex b.same two)
      where
        b : Busy G lat s v t u
        b = busy→ G lat s v t u h

        th : t < H
        th = omega (arith, P.top v l)

        two : other u v ≡ true
        two = ap not (ne_eqb u v (λ q. omega (arith, ap s q, b.begun)))

        du : Done G lat s u (s u)
        du = P.ready u lu (omega (arith, b.begun, th))

        by_cover : (con v u ≡ true) ⊎ (Way G u v ⊎ (Way G v u ⊎ Apart u v)) → con v u ≡ true
        by_cover (inl c) = c
        by_cover (inr (inl p)) = absurd (omega (arith, done_of_way G lat F H s P u v t l b.ex p d th, b.runs))
        by_cover (inr (inr (inl p))) = absurd (omega (arith, done_of_way G lat F H s P v u (s u) lu e p du (omega (arith, b.begun, th)), b.begun))
        by_cover (inr (inr (inr a))) =
            ⊎_elim
            (λ q. absurd (omega (arith, early_ready G lat F H s P ER A v t l th d, b.runs)))
            (λ q. absurd (omega (arith, early_start G lat F H s P ER A u lu (omega (arith, b.begun, th)), b.begun)))
            (sep u v lu l a)

    -- a later one that runs while v waits started before v was ready
    late_start : (t u : ℕ) → u < G.N → v ≤ u → t < s v → busy G lat s v t u ≡ true → Done G lat s v (s u) → ⊥
    late_start t u lu o w h d =
        omega (arith, P.room u lu b.ex su, P.waits v (s u) l e (omega (arith, b.begun)) d, sub, ap G.units b.same)
      where
        b : Busy G lat s v t u
        b = busy→ G lat s v t u h

        su : s u < H
        su = omega (arith, P.top v l, b.begun)

        sub : count_busy G lat s v (s u) ≤ count_busy G lat s u (s u)
        sub =
            length_fewer (busy G lat s v (s u)) (busy G lat s u (s u)) 0 G.N
            (λ x _ lx k.
            let c = busy→ G lat s v (s u) x k in
            →busy G lat s u (s u) x
            (record { ex = c.ex; same = c.same ∙ sym b.same; runs = c.runs; begun = c.begun; tie = λ y. c.tie (omega arith) }))

    module _ (dR : Done G lat s v (R v)) where
      -- from `base` on only earlier ones run
      busy_early : (t u : ℕ) → u < G.N → base G late R v ≤ t → t < s v → busy G lat s v t u ≡ true → (con v u ≡ true) × (u < v)
      unfolding base
      busy_early t u lu g w h = (c, stands_before (dec_le v u))
        where
          b : Busy G lat s v t u
          b = busy→ G lat s v t u h

          c : con v u ≡ true
          c = busy_con t u lu (done_mono G lat s v (R v) t (omega arith) dR) w h

          stands_before : Dec (v ≤ u) → u < v
          stands_before (no k) = omega arith
          stands_before (yes k) = absurd (sooner (dec_le (R v) (s u)))
            where
              sooner : Dec (R v ≤ s u) → ⊥
              sooner (yes x) = late_start t u lu k w h (done_mono G lat s v (R v) (s u) x dR)
              sooner (no x) =
                  let su : s u < H = omega (arith, P.top v l, b.begun) in
                  let er : ER u < R v = omega (arith, early_start G lat F H s P ER A u lu su) in
                  let ne : v < u = stands_after (dec_le u v) in
                  let lt = Q.later v u l lu c ne er in
                  omega (arith, b.runs, F.high u lu, largest_at (late v) G.hi (v + 1) G.N u (omega arith) lu lt)
                where
                  stands_after : Dec (u ≤ v) → v < u
                  stands_after (no z) = omega arith
                  stands_after (yes z) = let q : u ≡ v = omega arith in absurd (omega (arith, ap s q, b.begun))

      r_le_base : R v ≤ base G late R v
      unfolding base
      r_le_base = omega arith

      -- from `base` on all units are taken, at each time
      taken : (t : ℕ) → R v ≤ t → t < s v → G.units (G.kind v) ≤ count_busy G lat s v t
      taken t g h = P.waits v t l e h (done_mono G lat s v (R v) t g dR)

      -- the earlier ones, and those of them that run
      abbrev before : List ℕ
      before = numbers_where 0 v (con v)

      busy_before : (t : ℕ) → base G late R v ≤ t → t < s v → numbers_where 0 G.N (busy G lat s v t) ≡ kept (busy G lat s v t) before
      busy_before t g h =
          numbers_where_back (busy G lat s v t) 0 v G.N (omega arith) (omega arith)
          (λ u o lu. by_test (busy G lat s v t u) (λ y. absurd (omega (arith, (busy_early t u lu g h y).1))) (λ f. f))
          ∙ numbers_where_ext (busy G lat s v t) (λ u. con v u && busy G lat s v t u) 0 v
          (λ u _ o. by_test (busy G lat s v t u) (λ y. rw (y, (busy_early t u (omega arith) g h y).0) refl) (λ f. rw (f, and-false (con v u)) refl))
          ∙ numbers_where_kept (con v) (busy G lat s v t) 0 v

      -- the wait is paid for by the earlier ones' latencies
      wait_sum : s v ≤ base G late R v + early_sum G con v / G.units (G.kind v)
      unfolding early_sum
      wait_sum =
          let k : ℕ = s v - base G late R v in
          let m : ℕ = G.units (G.kind v) in
          let b : ℕ = base G late R v in
          let paid : m * k ≤ sum (map lat before) =
          area (λ i u. busy G lat s v (b + i) u) before m b k s lat
          (λ i h. rw (busy_before (b + i) (omega arith) (omega arith)) at (taken (b + i) (omega (arith, r_le_base)) (omega arith)))
          (λ i u h lu t. let x = busy→ G lat s v (b + i) u t in (x.begun, x.runs))
          in
          let most : sum (map lat before) ≤ early_sum G con v =
          sum_mono lat G.hi before (λ u i. F.high u (omega (arith, (numbers_where_in (con v) 0 v u i).1)))
          in
          let q : k ≤ early_sum G con v / m = (le-div_iff_mul-le {k = m} {x = k} {y = early_sum G con v} (G.units_pos (G.kind v))).1 (omega arith) in
          omega arith

      wait_last : ((u : ℕ) → u < v → s u + lat u ≤ LF u) → s v ≤ max (base G late R v) (early_last con LF v)
      unfolding early_last
      wait_last ih = by_wait (dec_le (s v) (base G late R v))
        where
          by_wait : Dec (s v ≤ base G late R v) → s v ≤ max (base G late R v) (early_last con LF v)
          by_wait (yes h) = omega arith
          by_wait (no h) =
              let t : ℕ = s v - 1 in
              let some : 0 < count_busy G lat s v t = omega (arith, taken t (omega (arith, r_le_base)) (omega arith), G.units_pos (G.kind v)) in
              let f = numbers_where_find (busy G lat s v t) 0 G.N some in
              let u : ℕ = f.0 in
              let b : Busy G lat s v t u = busy→ G lat s v t u f.3 in
              let y = busy_early t u f.2 (omega arith) (omega arith) f.3 in
              omega (arith, ih u y.1, b.runs, largest_at (con v) LF 0 v u (omega arith) y.1 y.0)

      -- at the time R v all units are taken by what may delay v
      wait_con : R v < s v → G.units (G.kind v) ≤ length (numbers_where 0 G.N (con v))
      wait_con h =
          omega (
            arith,
            taken (R v) (omega arith) h,
            length_fewer (busy G lat s v (R v)) (con v) 0 G.N (λ u _ lu t. busy_con (R v) u lu dR h t),
          )

      ex_bound : ((u : ℕ) → u < v → s u + lat u ≤ LF u) → s v ≤ LS v
      ex_bound ih = by_wait (dec_le (s v) (R v))
        where
          by_wait : Dec (s v ≤ R v) → s v ≤ LS v
          by_wait (yes h) = omega (arith, Q.ls_base v l)
          by_wait (no h) = omega (arith, Q.ls_ex v l e (wait_con (omega arith)), wait_sum, wait_last ih)

  -- A ROUND BOUNDS EVERY SCHEDULE. In node order: the nodes before v keep their latest times, so v is ready by R. Off EX it
  -- then starts. An EX that is ready at r and starts at s finds all units of its kind held at each cycle from r on and before
  -- s. One that holds a unit has no path to v, or it had finished by r, and none from v, or it started after v; nor is it
  -- apart from v. So it may delay v. A later one that holds a unit started before r, since from r on v came first; so it ends
  -- by r + hi - 1, and from `base` on only earlier ones hold units. At s - 1 one of them runs: s is at most the largest of
  -- their finishes (`wait_last`). And each cycle from `base` to s takes as many of their cycles as there are units: s is at
  -- most `base` + their latencies' sum over the units (`wait_sum`).
  module _ (con late : ℕ → ℕ → Bool) (R LS LF : ℕ → ℕ) (Q : Round G ER Apart con late R LS LF) where
    ends_by : (u : ℕ) → u < G.N → s u ≤ LS u → s u + lat u ≤ LF u
    ends_by u l h = omega (arith, F.high u l, Q.lf u l)

    ready_by : (v : ℕ) → v < G.N → ((u : ℕ) → u < v → s u ≤ LS u) → Done G lat s v (R v)
    ready_by v l ih =
        record {
          fin = λ u f. let o = G.fin_lt u v f in omega (arith, ends_by u (omega arith) (ih u o), Q.r_fin u v l f);
          ord = λ u f. let o = G.ord_lt u v f in omega (arith, ih u o, Q.r_ord u v l f);
        }

    starts_if_earlier_do : (v : ℕ) → v < G.N → ((u : ℕ) → u < v → s u ≤ LS u) → s v ≤ LS v
    starts_if_earlier_do v l ih = by_stage (G.ex v) refl
      where
        by_stage : (b : Bool) → G.ex v ≡ b → s v ≤ LS v
        by_stage true x = ex_bound con late R LS LF Q v l x (ready_by v l ih) (λ u o. ends_by u (omega arith) (ih u o))
        by_stage false x = off_ex (dec_le (s v) (LS v))
          where
            off_ex : Dec (s v ≤ LS v) → s v ≤ LS v
            off_ex (yes h) = h
            off_ex (no h) = absurd (P.prompt v (R v) l x (omega (arith, Q.ls_base v l)) (ready_by v l ih))

    starts_below : (k v : ℕ) → v < k → v < G.N → s v ≤ LS v
    starts_below zero v b l = absurd (omega arith)
    starts_below (suc k) v b l = starts_if_earlier_do v l (λ u o. starts_below k u (omega arith) (omega arith))

    starts_by : (v : ℕ) → v < G.N → s v ≤ LS v
    starts_by v l = starts_below (suc v) v (omega arith) l

    pub bounded : (v : ℕ) → v < G.N → Bounded G lat s R LS LF v
    bounded v l = record { ready = ready_by v l (λ u o. starts_by u (omega arith)); start = starts_by v l; finish = ends_by v l (starts_by v l) }
