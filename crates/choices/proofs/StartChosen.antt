-- What the code chooses from the notes is the next of its kind in the play, at the time that the play has. Assumes nothing.
--
-- Why: S is the set of instructions whose EX has a start in the notes. The first of a kind's four numbers is the time from which
-- on S leaves a unit of it. Nothing that S has not starts before that (`late`), and what is ready starts as soon as it has a unit,
-- if S has all of its kind that start sooner (`soon`). All sources of c, the oldest that S has not, have a start; so its ready
-- time, as the notes have it, is the play's. Where c is ready by the time that a unit is free, it starts then (`oldest`). Else
-- the one that can start first is chosen. A ready time that is worked out from the notes is the play's, unless a source has no
-- start yet; that source then starts before what waits for it. What cannot be decoded yet waits for the commit of c, and so
-- starts after c. So each that S has not either can be compared with the one chosen, or starts after another that S has not:
-- that is what `least` asks. The scan may stop where the finishes of ID have reached the best time, since those rise.
use Prim.Native.Nat.{ℕ, zero, suc, ◌+◌, ◌-◌, ◌≤◌, ◌<◌, min, max}
use mathlib.Core.Path.{◌≡◌, refl, sym, subst, ap, ◌∙◌}
use mathlib.Core.Bool.{true, false, false≢true}
use mathlib.Core.List.{List}
use mathlib.Core.Logic.{◌⊎◌, inl, inr, ⊎_elim}
use native.Mathlib.Omega.{arith}
use native.Mathlib.Decide.{dec_le, dec_lt}
use native.Mathlib.Numerals.{add-one}
use lib.ListN.{get_or}
use borrow.Author.Tests.{lt-ltb, eqb-true, not-false}
use Rattle.lists.proofs.Bools.{by_test}
use Rattle.record.specs.declared.Block.{Block}
use Rattle.record.proofs.AcceptedRanges.{Ranges, ranges}
use Rattle.model.specs.Nodes.{ID, EX, WB, node, entry, source}
use Rattle.model.specs.Cycles.{start, units}
use Rattle.schedules.specs.inside.Executions.{Work, work, Served, held, FreeFrom, Fixes}
use Rattle.schedules.proofs.PlayExecutions.{served}
use Rattle.schedules.proofs.Choosing.{Behind, late, oldest, least}
use Rattle.unpacked.specs.inside.ReadyByStage.{finish_source, ready_ex}
use Rattle.unpacked.specs.inside.UnpackedBlock.{code}
use Rattle.unpacked.proofs.RegisterSources.{source_most}
use Rattle.choices.specs.declared.Choice.{Choice}
use Rattle.choices.specs.inside.InstructionRows.{Playing}
use Rattle.choices.specs.inside.NoteSteps.{never, fixed, unit_times, sources_of, ready_of, end_of, key_of, Rising, Chooses}
use Rattle.choices.specs.inside.PlayNotes.{starts, ends, Slots, Notes}
use Rattle.choices.proofs.PlayTimes.{execute_ready, ends_one, ends_ex, ends_most, decode_order, source_sooner, window_sooner}
use Rattle.choices.specs.declared.Row.{Row}
use Rattle.choices.specs.declared.PlayNotes.{PlayNotes}
use Rattle.choices.proofs.SlotSums.{units_range, above_over, first_from, first_on}

module _ (b : Block) (l : List ℕ) (rows : List Row) (P : Playing b l rows) where
  abbrev W : Work
  W = work b l

  abbrev s : List ℕ
  s = starts b l

  abbrev A : Ranges b
  A = ranges b P.accepted

  pub serves : Served W
  serves = served b P.accepted P.cap l P.fit

  pub start_most : (i : ℕ) → i < b.n → W.start i < never
  start_most i h = omega (arith, ends_ex b l rows P i, ends_most b l rows P EX i (omega arith) h)

  -- ---- units: the first of a kind's four numbers is the first time at which one is free
  slots_free : (k : ℕ) (x : PlayNotes) → Slots b l k (fixed x) (unit_times x k) → FreeFrom W (fixed x) never k (unit_times x k).first
  slots_free k x S =
      record {
        from = λ t h u.
            first_from t _ _ _ _ (units b k) (held W (fixed x) k t) S.first S.second S.third (units_range b k).1
            (sym (above_over (unit_times x k) t) ∙ S.count t h) u;
        on = λ t h u. first_on t _ _ _ _ (units b k) (held W (fixed x) k t) (units_range b k).1 (sym (above_over (unit_times x k) t) ∙ S.count t h) u;
      }

  module _ (c m : ℕ) (x : PlayNotes) (N : Notes b l c m x) where
    free_at : (i : ℕ) → i < b.n → FreeFrom W (fixed x) never (W.kind i) (end_of rows x i)
    unfolding end_of
    free_at i h =
        subst (λ (k : ℕ). FreeFrom W (fixed x) never (W.kind i) (unit_times x k).first) (sym (P.has.kind i h))
        (slots_free (entry b i).kind x (N.fixes.slots (entry b i).kind (omega (arith, (A.instruction i h).kind))))

    -- ---- a ready time, worked out from the notes, is the play's, or a source has no start yet
    abbrev Waits : ℕ → Type 0
    Waits j = (i : ℕ) × (i < j) × (fixed x i ≡ false) × (W.start i < W.start j)

    source_of : (j y : ℕ) → j < b.n → y ≤ j → finish_source s y ≤ W.start j → (get_or x.written y 0 ≡ finish_source s y) ⊎ (Waits j × (get_or x.written y 0 ≡ never))
    unfolding finish_source
    source_of j zero h k f = inl N.fixes.none
    source_of j (suc i) h k f =
        let g : i < b.n = omega arith in
        let q : i + 1 - 1 ≡ i = omega arith in
        by_test (fixed x i)
        (λ t.
        inl
        (rw (← add-one i)
        ((N.fixes.written i g t).0 ∙ (ends_one b l rows P WB i (omega arith) (λ e. omega arith) ∙ rw (lt-ltb 0 (i + 1) (omega arith), q) refl))))
        (λ t. inr ((i, omega arith, t, source_sooner b l rows P i j (suc i) g (sym (add-one i)) f), rw (← add-one i) (eqb-true _ _ (not-false _ t))))

    -- the sources of j as numbers
    abbrev one : ℕ → ℕ
    one j = code (source b (entry b j).reads1 j)

    abbrev other : ℕ → ℕ
    other j = code (source b (entry b j).reads2 j)

    ready_known : (j : ℕ) → j < m → fixed x j ≡ false → get_or x.written (one j) 0 ≡ finish_source s (one j) → get_or x.written (other j) 0 ≡ finish_source s (other j)
        → ready_of rows x j ≡ W.ready j
    unfolding ready_of sources_of ready_ex
    ready_known j h off p q =
        let g : j < b.n = omega (arith, N.few) in
        let d = N.fixes.waiting j h off ∙ ends_one b l rows P ID j (omega arith) (λ e. omega arith) in
        rw (P.has.first j g, P.has.second j g) (rw (p, q, d) (sym (execute_ready b l rows P j)))

    source_late : (j : ℕ) → j < b.n → (finish_source s (one j) ≤ W.start j) × (finish_source s (other j) ≤ W.start j)
    unfolding ready_ex
    source_late j g =
        let r = execute_ready b l rows P j in
        let e = serves.ready j g in
        (omega (arith, r, e), omega (arith, r, e))

    -- one that has no start yet
    never_ready : (j : ℕ) → j < b.n → (get_or x.written (one j) 0 ≡ never) ⊎ (get_or x.written (other j) 0 ≡ never) → never ≤ ready_of rows x j
    unfolding ready_of sources_of
    never_ready j g w =
        let p = ap (λ (y : ℕ). get_or x.written y 0) (P.has.first j g) in
        let q = ap (λ (y : ℕ). get_or x.written y 0) (P.has.second j g) in
        ⊎_elim (λ e. omega (arith, p, e)) (λ e. omega (arith, q, e)) w

    ready_or : (j : ℕ) → j < m → fixed x j ≡ false → (ready_of rows x j ≡ W.ready j) ⊎ (Waits j × (never ≤ ready_of rows x j))
    ready_or j h off =
        let g : j < b.n = omega (arith, N.few) in
        ⊎_elim
        (λ p.
        ⊎_elim (λ q. inl (ready_known j h off p q)) (λ q. inr (q.0, never_ready j g (inr q.1)))
        (source_of j (other j) g (source_most b (entry b j).reads2 j) (source_late j g).1))
        (λ p. inr (p.0, never_ready j g (inl p.1)))
        (source_of j (one j) g (source_most b (entry b j).reads1 j) (source_late j g).0)

    -- those of one whose elders all have a start
    pub sources_known : (j : ℕ) → j ≤ c → j < b.n → sources_of rows x j ≡ max (finish_source s (one j)) (finish_source s (other j))
    unfolding sources_of
    sources_known j h g =
        let p : get_or x.written (one j) 0 ≡ finish_source s (one j)
        = started (one j) (source_of j (one j) g (source_most b (entry b j).reads1 j) (source_late j g).0) in
        let q : get_or x.written (other j) 0 ≡ finish_source s (other j)
        = started (other j) (source_of j (other j) g (source_most b (entry b j).reads2 j) (source_late j g).1) in
        rw (P.has.first j g, P.has.second j g) (rw (p, q) refl)
      where
        started : (y : ℕ) → (get_or x.written y 0 ≡ finish_source s y) ⊎ (Waits j × (get_or x.written y 0 ≡ never)) → get_or x.written y 0 ≡ finish_source s y
        started y (inl e) = e
        started y (inr w) = absurd (false≢true (sym w.0.2 ∙ N.passed w.0.0 (omega (arith, w.0.1))))

    gone_ready : (j : ℕ) → j < m → fixed x j ≡ true → never ≤ ready_of rows x j
    unfolding ready_of
    gone_ready j h on = omega (arith, N.fixes.gone j h on)

    -- those of the oldest have all started
    oldest_ready : c < m → fixed x c ≡ false → ready_of rows x c ≡ W.ready c
    oldest_ready h off = ⊎_elim (λ e. e) (λ w. absurd (false≢true (sym w.0.2 ∙ N.passed w.0.0 w.0.1))) (ready_or c h off)

    -- ---- the finishes of ID rise
    rising : Rising m x
    rising = record { each = each }
      where
        each : (i j : ℕ) → i ≤ j → j < m → get_or x.decoded (32 + i) 0 ≤ get_or x.waiting j 0
        each i j h k =
            let g : j < b.n = omega (arith, N.few) in
            let q : i + (j - i) ≡ j = omega arith in
            let o : start s (node ID i) ≤ start s (node ID j) = rw q at (decode_order b l rows P i (j - i) (omega arith)) in
            let a : get_or x.decoded (32 + i) 0 ≡ ends b l (node ID i) = N.off_ex.decoded.each i (omega arith) in
            let e = ends_one b l rows P ID i (omega arith) (λ e. omega arith) in
            let f = ends_one b l rows P ID j (omega arith) (λ e. omega arith) in
            by_test (fixed x j)
            (λ t. omega (arith, N.fixes.gone j k t, a, ends_most b l rows P ID i (omega arith) (omega arith)))
            (λ t. omega (arith, N.fixes.waiting j k t, a, e, f, o))

    -- ---- THE CHOICE IS THE PLAY'S
    module _ (some : c < m) (all : min b.n (c + b.w) ≤ m) (off : fixed x c ≡ false) (v : Choice) (R : Chooses c m rows x v) where
      abbrev i : ℕ
      i = v.at

      few : c < b.n
      few = omega (arith, N.few)

      abbrev Next : Type 0
      Next = (fixed x i ≡ false) × (Fixes W (fixed x) i v.start)

      by_oldest : ready_of rows x c ≤ end_of rows x c → Next
      unfolding key_of
      by_oldest h =
          let e = R.oldest h in
          let t : v.start ≡ end_of rows x c = R.among.start ∙ rw e (omega arith) in
          let r = oldest_ready some off in
          rw (e, t)
          (off, oldest W serves (fixed x) N.fixes.front never start_most c (end_of rows x c) few off N.passed (free_at c few) (omega arith))

      -- the oldest can start by its start, so the one chosen has a known time
      chosen_known : end_of rows x c < ready_of rows x c → v.start < never
      unfolding key_of
      chosen_known h =
          let r = oldest_ready some off in
          omega (
            arith,
            (R.first h rising c (omega arith) some).0,
            serves.ready c few,
            late W serves (fixed x) N.fixes.front never start_most c (end_of rows x c) few off (free_at c few),
            start_most c few,
          )

      -- one without a start comes after the chosen one, or after another without a start
      abbrev After : ℕ → Type 0
      After j = Behind W i v.start j ⊎ ((k : ℕ) × (k < b.n) × (fixed x k ≡ false) × (W.start k < W.start j))

      behind : end_of rows x c < ready_of rows x c → (j : ℕ) → j < b.n → fixed x j ≡ false → After j
      unfolding key_of
      behind h j g t = by_place (dec_lt j m)
        where
          decoded : j < m → Dec (c ≤ j) → After j
          decoded d (yes o) =
              ⊎_elim
              (λ r.
              let n = R.first h rising j o d in
              let y = serves.ready j g in
              let z = late W serves (fixed x) N.fixes.front never start_most j (end_of rows x j) g t (free_at j g) in
              inl (omega (arith, n.0, r, y, z), λ k. omega (arith, n.1 k, r, y, z)))
              (λ w. inr (w.0.0, omega (arith, w.0.1), w.0.2, w.0.3))
              (ready_or j d t)
          decoded d (no o) = absurd (false≢true (sym t ∙ N.passed j (omega arith)))

          by_place : Dec (j < m) → After j
          by_place (yes d) = decoded d (dec_le c j)
          by_place (no d) = inr (c, few, off, window_sooner b l rows P c j g (omega (arith, d)) (serves.ready j g))

      by_least : end_of rows x c < ready_of rows x c → Next
      unfolding key_of
      by_least h =
          let k = chosen_known h in
          let g : i < b.n = omega (arith, R.among.below, N.few) in
          let out = unstarted k in
          ⊎_elim
          (λ r.
          let t = R.among.start ∙ rw r refl in
          (out, least W serves (fixed x) N.fixes.front never start_most i (end_of rows x i) v.start g out (free_at i g) t (behind h)))
          (λ w. absurd (omega (arith, w.1, R.among.start, k)))
          (ready_or i R.among.below out)
        where
          unstarted : v.start < never → fixed x i ≡ false
          unstarted k = by_test (fixed x i) (λ t. absurd (omega (arith, gone_ready i R.among.below t, R.among.start))) (λ t. t)

      pub chosen_next : Next
      chosen_next = by_time (dec_le (ready_of rows x c) (end_of rows x c))
        where
          by_time : Dec (ready_of rows x c ≤ end_of rows x c) → Next
          by_time (yes h) = by_oldest h
          by_time (no h) = by_least (omega arith)
