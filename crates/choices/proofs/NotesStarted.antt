-- The notes after one more EX start: they hold again, with that start fixed. Assumes nothing.
--
-- Why: the next of its kind comes after all of the kind that are fixed and before all that are not. Its start is no sooner
-- than the least of its kind's four numbers; so of those above a time as many are added as EX that finish after it, until
-- all four are.
use Prim.Native.Nat.{ℕ, ◌+◌, ◌-◌, ◌%◌, ◌≤◌, ◌<◌, min, max}
use mathlib.Core.Path.{◌≡◌, refl, sym, ap, ◌∙◌}
use mathlib.Core.Bool.{true, false, not, false≢true}
use mathlib.Core.List.{List}
use native.Mathlib.Omega.{arith}
use lib.ListN.{get_or, set, length-set}
use lib.Seq.{get_or-set_same, get_or-set_other}
use lib.Dec.{ltb, eqb}
use borrow.Author.Tests.{eqb-true, eqb-false, eq-eqb, ne_eqb}
use Rattle.lists.specs.Lists.{pick}
use Rattle.lists.proofs.Bools.{by_test}
use Rattle.record.specs.declared.Block.{Block}
use Rattle.record.proofs.AcceptedRanges.{Ranges, ranges}
use Rattle.model.specs.Nodes.{EX, WB, node, entry}
use Rattle.model.specs.Cycles.{most_cycles, units}
use Rattle.schedules.specs.inside.Executions.{Work, work, held, Fixes}
use Rattle.schedules.proofs.Choosing.{front_more, held_more}
use Rattle.choices.specs.inside.InstructionRows.{Playing}
use Rattle.choices.specs.inside.NoteSteps.{never, fixed, no_times, unit_times, held_until, held_into, started_into}
use Rattle.choices.specs.inside.PlayNotes.{ends, Slots, Starts, Notes}
use Rattle.choices.proofs.PlayTimes.{ends_most, ends_ex, write_end}
use Rattle.choices.specs.declared.Row.{Row}
use Rattle.choices.specs.declared.UnitTimes.{UnitTimes}
use Rattle.choices.specs.declared.PlayNotes.{PlayNotes}
use Rattle.choices.proofs.SlotSums.{above_over, over_inserted, over_held, rise_first, rise_second, rise_third}

module _ (b : Block) (l : List ℕ) (rows : List Row) (P : Playing b l rows) (c m : ℕ) (x : PlayNotes) (N : Notes b l c m x) (i t k y : ℕ)
    (below : i < m) (off : fixed x i ≡ false) (F : Fixes (work b l) (fixed x) i t)
    (kind : k ≡ (entry b i).kind) (takes : y ≡ get_or l i 0) (from : (unit_times x k).first ≤ t) where
  abbrev W : Work
  W = work b l

  abbrev A : Ranges b
  A = ranges b P.accepted

  few : i < b.n
  few = omega (arith, N.few)

  abbrev e : ℕ
  e = t + y

  -- the notes with WB noted and the unit held
  abbrev x' : PlayNotes
  x' = record {
    written = set x.written (i + 1) ((e + 1) % 65536);
    waiting = set x.waiting i never;
    units = set x.units k (held_until e (unit_times x k));
    fetch = x.fetch;
    fetched = x.fetched;
    decoded = x.decoded;
    committed = x.committed;
  }

  four : k < 4
  four = omega (arith, (A.instruction i few).kind)

  end_is : e ≡ W.start i + W.lat i
  end_is = omega (arith, F.start)

  end_most : e ≤ most_cycles
  end_most = omega (arith, end_is, ends_ex b l rows P i, ends_most b l rows P EX i (omega arith) few)

  -- ---- by index
  small : i < 60
  small = omega (arith, few, A.n.1)

  -- the WB of i
  written_at : get_or x'.written (i + 1) 0 ≡ ends b l (node WB i)
  written_at =
      get_or-set_same x.written (i + 1) _ 0 (omega (arith, small, N.places))
      ∙ omega (arith, end_is, end_most, write_end b l rows P i few)

  written_else : (p : ℕ) → (p ≡ i + 1 → ⊥) → get_or x'.written p 0 ≡ get_or x.written p 0
  written_else p ne = get_or-set_other x.written (i + 1) p _ 0 ne

  waiting_else : (j : ℕ) → (j ≡ i → ⊥) → get_or x'.waiting j 0 ≡ get_or x.waiting j 0
  waiting_else j ne = get_or-set_other x.waiting i j never 0 ne

  gone_at : get_or x'.waiting i 0 ≡ never
  gone_at = get_or-set_same x.waiting i never 0 (omega (arith, small, N.sixty))

  -- ---- what is fixed
  now_fixed : fixed x' i ≡ true
  now_fixed = ap not (ne_eqb (get_or x'.written (i + 1) 0) never (λ q. omega (arith, written_at, ends_most b l rows P WB i (omega arith) few)))

  fixed_else : (j : ℕ) → j < b.n → (j ≡ i → ⊥) → fixed x' j ≡ fixed x j
  fixed_else j h ne = ap (λ (z : ℕ). not (eqb z never)) (written_else (j + 1) (λ g. ne (omega arith)))

  -- ---- the units
  abbrev u : UnitTimes
  u = unit_times x k

  unit_held : unit_times x' k ≡ held_until e u
  unit_held = get_or-set_same x.units k (held_until e u) no_times (omega (arith, four, N.kinds))

  unit_else : (j : ℕ) → (j ≡ k → ⊥) → unit_times x' j ≡ unit_times x j
  unit_else j ne = get_or-set_other x.units k j (held_until e u) no_times ne

  module _ (S : Slots b l k (fixed x) u) where
    end_small : e ≤ never
    end_small = omega (arith, end_most)

    new_first : (held_until e u).first ≡ min u.second e
    new_first = omega (arith, end_small)

    new_second : (held_until e u).second ≡ min u.third (max u.second e)
    new_second = omega (arith, end_small)

    new_third : (held_until e u).third ≡ min u.fourth (max u.third (max u.second e))
    new_third = omega (arith, end_small, S.most)

    new_fourth : (held_until e u).fourth ≡ max u.fourth (max u.third (max u.second e))
    new_fourth = omega (arith, end_small, S.second, S.third, S.most)

    -- as many more as finish after τ
    held_then : (τ : ℕ) → held W (fixed x') k τ ≡ held W (fixed x) k τ + pick (ltb τ e) 1 0
    held_then τ =
        held_more W (fixed x) (fixed x') i few off now_fixed fixed_else k τ
        ∙ rw (eq-eqb (entry b i).kind k (sym kind), ← end_is) refl

    add_last : (w h v : ℕ) → w + h + v ≡ w + (h + v)
    add_last w h v = omega arith

    slots_held : Slots b l k (fixed x') (held_until e u)
    slots_held =
        record {
          first = rw (new_first, new_second) (rise_first u.second u.third e S.second);
          second = rw (new_second, new_third) (rise_second u.third u.fourth (max u.second e) S.third);
          third = rw (new_third, new_fourth) (rise_third u.fourth (max u.third (max u.second e)));
          most = rw new_fourth (omega (arith, S.second, S.third, S.most, end_most));
          count = λ τ h.
              above_over (held_until e u) τ
              ∙ rw (new_first, new_second, new_third, new_fourth)
              (over_inserted τ u.second u.third u.fourth e
              ∙ (over_held τ u.first u.second u.third u.fourth e (4 - units b k + held W (fixed x) k τ) S.first S.second S.third (omega (arith, from))
              (sym (above_over u τ) ∙ S.count τ h)
              ∙ ap (min 4)
              (add_last (4 - units b k) (held W (fixed x) k τ) (pick (ltb τ e) 1 0)
              ∙ ap (λ (z : ℕ). 4 - units b k + z) (sym (held_then τ)))));
        }

  -- another kind's are as they were
  slots_else : (j : ℕ) → j < 4 → (j ≡ k → ⊥) → Slots b l j (fixed x) (unit_times x j) → Slots b l j (fixed x') (unit_times x j)
  slots_else j o ne S =
      record {
        first = S.first;
        second = S.second;
        third = S.third;
        most = S.most;
        count = λ τ h. S.count τ h ∙ ap (λ (z : ℕ). min 4 (4 - units b j + z)) (sym (not_held τ));
      }
    where
      not_held : (τ : ℕ) → held W (fixed x') j τ ≡ held W (fixed x) j τ
      not_held τ =
          held_more W (fixed x) (fixed x') i few off now_fixed fixed_else j τ
          ∙ rw (ne_eqb (entry b i).kind j (λ q. ne (sym q ∙ sym kind))) (omega arith)

  -- ---- THE NOTES WITH ONE MORE START
  starts_on : Starts b l m x'
  starts_on =
      record {
        none = written_else 0 (λ g. omega arith) ∙ N.fixes.none;
        written = λ j h t. by_test (eqb j i)
            (λ q. rw (eqb-true j i q) (written_at, below))
            (λ q.
            let ne = eqb-false j i q in
            let w = N.fixes.written j h (sym (fixed_else j h ne) ∙ t) in
            (written_else (j + 1) (λ g. ne (omega arith)) ∙ w.0, w.1));
        waiting = λ j h t. by_test (eqb j i)
            (λ q. absurd (false≢true (sym (rw (eqb-true j i q) at t) ∙ now_fixed)))
            (λ q.
            let ne = eqb-false j i q in
            let d : j < b.n = omega (arith, N.few) in
            waiting_else j ne ∙ N.fixes.waiting j h (sym (fixed_else j d ne) ∙ t));
        gone = λ j h t. by_test (eqb j i)
            (λ q. rw (eqb-true j i q) gone_at)
            (λ q.
            let ne = eqb-false j i q in
            let d : j < b.n = omega (arith, N.few) in
            waiting_else j ne ∙ N.fixes.gone j h (sym (fixed_else j d ne) ∙ t));
        front = front_more W (fixed x) (fixed x') i t N.fixes.front F now_fixed fixed_else;
        slots = λ j h. by_test (eqb j k)
            (λ q. rw (eqb-true j k q, unit_held) (slots_held (N.fixes.slots k four)))
            (λ q. let ne = eqb-false j k q in rw (unit_else j ne) (slots_else j h ne (N.fixes.slots j h)));
      }

  pub notes_started : Notes b l c m (started_into i t k y x)
  unfolding started_into held_into
  notes_started =
      record {
        places = length-set x.written (i + 1) _ ∙ N.places;
        sixty = length-set x.waiting i never ∙ N.sixty;
        kinds = length-set x.units k _ ∙ N.kinds;
        past = N.past;
        few = N.few;
        off_ex =
            record { fetch = N.off_ex.fetch; fetched = N.off_ex.fetched; decoded = N.off_ex.decoded; committed = N.off_ex.committed };
        fixes = starts_on;
        passed = λ j h. fixed_else j (omega (arith, N.past, N.few)) (λ q. false≢true (sym off ∙ rw q at (N.passed j h))) ∙ N.passed j h;
      }

  pub started_fixed : fixed (started_into i t k y x) i ≡ true
  unfolding started_into held_into
  started_fixed = now_fixed

  pub started_else : (j : ℕ) → j < b.n → (j ≡ i → ⊥) → fixed (started_into i t k y x) j ≡ fixed x j
  unfolding started_into held_into
  started_else = fixed_else
