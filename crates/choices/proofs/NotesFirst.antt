-- The notes before the play: nothing is known, and each unit is free. Assumes nothing.
use Prim.Native.Nat.{ℕ, zero, suc, ◌+◌, ◌-◌, ◌≤◌, ◌<◌}
use mathlib.Core.Path.{◌≡◌, sym, subst, ap, ◌∙◌}
use mathlib.Core.Bool.{false, not, false≢true}
use mathlib.Core.List.{List, ◌∷◌}
use native.Mathlib.Omega.{arith}
use lib.ListN.{length, get_or, replicate, length-replicate}
use native.Mathlib.Numerals.{add-one}
use Rattle.std.proofs.lemmas.List.{get_or_default}
use lib.Dec.{ltb}
use borrow.Author.Tests.{eq-eqb, le-ltb, ltb-false}
use Rattle.lists.proofs.Bools.{by_test}
use Rattle.record.specs.declared.Block.{Block}
use Rattle.record.proofs.AcceptedRanges.{ranges}
use Rattle.model.specs.Cycles.{units}
use Rattle.schedules.specs.inside.Executions.{work}
use Rattle.schedules.proofs.Choosing.{front_none, held_none}
use Rattle.choices.specs.inside.InstructionRows.{Playing}
use Rattle.choices.specs.inside.NoteSteps.{never, fixed, no_times, slot, unit_times, UnitsFree}
use Rattle.choices.specs.inside.PlayNotes.{Times, Slots, Notes}
use Rattle.choices.specs.declared.PlayNotes.{PlayNotes}
use Rattle.choices.specs.declared.Row.{Row}
use Rattle.choices.specs.declared.UnitTimes.{UnitTimes}
use Rattle.lists.proofs.Elements.{get_or_zeros, get_or_all}
use Rattle.choices.proofs.SlotSums.{over, units_range, above_over}

-- of four such numbers as many are above a time as there are units too few, and they rise
slots_over : (m t : ℕ) → 1 ≤ m → m ≤ 4 → t < never → over t (slot m 0) + over t (slot m 1) + over t (slot m 2) + over t (slot m 3) ≡ 4 - m
unfolding over
slots_over zero t g h l = absurd (omega arith)
slots_over (suc zero) t g h l = omega arith
slots_over (suc (suc zero)) t g h l = omega arith
slots_over (suc (suc (suc zero))) t g h l = omega arith
slots_over (suc (suc (suc (suc zero)))) t g h l = omega arith
slots_over (suc (suc (suc (suc (suc m))))) t g h l = absurd (omega arith)

slot_rises : (m z : ℕ) → slot m z ≤ slot m (z + 1)
slot_rises m z =
    by_test (ltb z m)
    (λ e. rw e (omega arith))
    (λ e. rw (e, le-ltb (z + 1) m (omega (arith, ltb-false z m e))) (omega arith))

slot_most : (m z : ℕ) → slot m z ≤ never
slot_most m z = by_test (ltb z m) (λ e. rw e (omega arith)) (λ e. rw e (omega arith))

-- notes in which no WB has a finish, all units are as in u, and the rest is 0
pub record Unused (u : UnitTimes) (x : PlayNotes) : Type 0 where
  pub written : x.written ≡ 0 ∷ replicate 60 never
  pub waiting : x.waiting ≡ replicate 60 0
  pub units : x.units ≡ replicate 4 u
  pub fetch : x.fetch ≡ replicate 92 0
  pub fetched : x.fetched ≡ replicate 92 0
  pub decoded : x.decoded ≡ replicate 92 0
  pub committed : x.committed ≡ replicate 92 0

-- an element of a list that has one element over and over
each_same : {A : Type 0} (n i : ℕ) (a d : A) → i < n → get_or (replicate n a) i d ≡ a
each_same n i a d h = get_or_default (replicate n a) i d a (omega (arith, length-replicate n a)) ∙ get_or_all a n i

module _ (b : Block) (l : List ℕ) (rows : List Row) (P : Playing b l rows) (u : UnitTimes) (U : UnitsFree u) (x : PlayNotes) (E : Unused u x) where
  few : b.n ≤ 60
  few = (ranges b P.accepted).n.1

  unwritten : (i : ℕ) → i < 60 → get_or x.written (i + 1) 0 ≡ never
  unwritten i h = rw (E.written, add-one) (each_same 60 i never 0 h)

  not_fixed : (i : ℕ) → i < b.n → fixed x i ≡ false
  not_fixed i h = ap not (eq-eqb (get_or x.written (i + 1) 0) never (unwritten i (omega (arith, few))))

  first_times : (y : List ℕ) (f : ℕ → ℕ) → y ≡ replicate 92 0 → Times y 0 f
  first_times y f e =
      record {
        long = ap length e ∙ length-replicate {A = ℕ} 92 0;
        pad = λ z g. ap (λ (w : List ℕ). get_or w z 0) e ∙ get_or_zeros 92 z;
        each = λ i g. absurd (omega arith);
      }

  first_slots : (k : ℕ) → k < 4 → Slots b l k (fixed x) (unit_times x k)
  first_slots k h =
      subst (λ (w : UnitTimes). Slots b l k (fixed x) w)
      (sym (ap (λ (w : List UnitTimes). get_or w k no_times) E.units ∙ each_same 4 k u no_times h)) (slots_of_u k)
    where
      slots_of_u : (k : ℕ) → Slots b l k (fixed x) u
      slots_of_u k =
          let e₀ = U.first b k in
          let e₁ = U.second b k in
          let e₂ = U.third b k in
          let e₃ = U.fourth b k in
          record {
            first = rw (e₀, e₁) (slot_rises (units b k) 0);
            second = rw (e₁, e₂) (slot_rises (units b k) 1);
            third = rw (e₂, e₃) (slot_rises (units b k) 2);
            most = rw e₃ (slot_most (units b k) 3);
            count = λ t g.
                above_over u t
                ∙ rw (e₀, e₁, e₂, e₃, held_none (work b l) (fixed x) not_fixed k t)
                (slots_over (units b k) t (units_range b k).0 (units_range b k).1 g ∙ omega (arith, (units_range b k).0));
          }

  -- BEFORE THE PLAY
  pub notes_first : Notes b l 0 0 x
  notes_first =
      record {
        places = ap length E.written ∙ ap (λ (n : ℕ). suc n) (length-replicate 60 never);
        sixty = ap length E.waiting ∙ length-replicate {A = ℕ} 60 0;
        kinds = ap length E.units ∙ length-replicate 4 u;
        past = omega arith;
        few = omega arith;
        off_ex =
            record {
              fetch = first_times x.fetch _ E.fetch;
              fetched = first_times x.fetched _ E.fetched;
              decoded = first_times x.decoded _ E.decoded;
              committed = first_times x.committed _ E.committed;
            };
        fixes =
            record {
              none = ap (λ (w : List ℕ). get_or w 0 0) E.written;
              written = λ i h t. absurd (false≢true (sym (not_fixed i h) ∙ t));
              waiting = λ i h t. absurd (omega arith);
              gone = λ i h t. absurd (omega arith);
              front = front_none (work b l) (fixed x) not_fixed;
              slots = first_slots;
            };
        passed = λ i h. absurd (omega arith);
      }
