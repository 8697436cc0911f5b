-- From when on each kind's unit is free, found from the starts instruction by instruction. Assumes nothing.
use Prim.Native.Nat.{ℕ, ◌+◌, ◌≤◌, ◌<◌, max}
use mathlib.Core.Path.{◌≡◌, refl, sym, ap, ◌∙◌}
use mathlib.Core.Bool.{Bool, false, not, ◌&&◌, and-true, and-false}
use mathlib.Core.List.{List, append-nil}
use mathlib.Core.Logic.{⊎_elim}
use native.Mathlib.Omega.{arith}
use lib.Dec.{leb, ltb, eqb}
use lib.ListN.{length, get_or, set, replicate, length-set, length-append}
use lib.Seq.{get_or-set_same, get_or-set_other}
use borrow.Author.Tests.{le-leb, leb-true, leb-false, lt-ltb, le-ltb, eq-eqb, eqb-true, eqb-false}
use Rattle.lists.specs.Lists.{pick, numbers_where}
use Rattle.lists.proofs.Bools.{by_test}
use Rattle.lists.proofs.Elements.{get_or_zeros}
use Rattle.lists.proofs.NumbersWhere.{numbers_where_none, numbers_where_more}
use Rattle.record.specs.declared.Block.{Block}
use Rattle.model.specs.Nodes.{EX, node, entry, chosen}
use Rattle.model.specs.Cycles.{not_started, start, started, finish, runs, units, free}
use Rattle.cycles.specs.inside.PlayFacts.{Timed, Units}
use Rattle.unpacked.specs.declared.Instruction.{Instruction}
use Rattle.unpacked.specs.inside.UnpackedBlock.{kind_of, Instructions}
use Rattle.model.proofs.Latencies.{chosen_ex}
use Rattle.cycles.proofs.NodeTest.{both_le}
use Rattle.cycles.proofs.UnitsHeld.{holds}
use Rattle.schedules.proofs.CycleTurns.{started_is}

-- what `Units` says, of the instructions before m alone
pub record Before (b : Block) (lat : ℕ → ℕ) (t : ℕ) (s : List ℕ) (m : ℕ) (ends : List ℕ) : Type 0 where
  pub four : length ends ≡ 4
  pub free : (k t' : ℕ) → t ≤ t' → ltb (length (numbers_where 0 m (holds b lat t' s k))) 1 ≡ leb (get_or ends k 0) t'

pub before_none : (b : Block) (lat : ℕ → ℕ) (t : ℕ) (s : List ℕ) → Before b lat t s 0 (replicate 4 0)
before_none b lat t s =
    record { four = refl; free = λ k t' a. rw (numbers_where_none, get_or_zeros 4 k) (sym (le-leb 0 t' (omega arith))) }

pub before_all : (b : Block) (lat : ℕ → ℕ) (t : ℕ) (s : List ℕ) (m : ℕ) (ends : List ℕ) → m ≡ b.n → Before b lat t s m ends → Units b lat t s ends
unfolding free units
before_all b lat t s m ends e h =
    record {
      four = h.four;
      free = λ k t' a. ap (λ (x : ℕ). ltb (length (numbers_where 0 x (holds b lat t' s k))) 1) (sym e) ∙ h.free k t' a;
    }

-- ---- one instruction more
none_more : (p : ℕ → Bool) (m : ℕ) → ltb (length (numbers_where 0 (m + 1) p)) 1 ≡ (ltb (length (numbers_where 0 m p)) 1 && not (p m))
none_more p m =
    rw (numbers_where_more p 0 m (omega arith))
    (by_test (p m)
    (λ e. rw (e, length-append, and-false) (le-ltb (length (numbers_where 0 m p) + 1) 1 (omega arith)))
    (λ e. rw (e, append-nil, and-true) refl))

not_ltb : (t f : ℕ) → not (ltb t f) ≡ leb f t
not_ltb t f =
    by_test (leb f t)
    (λ e. rw (e, le-ltb t f (leb-true f t e)) refl)
    (λ e. rw (e, lt-ltb t f (leb-false f t e)) refl)

module _ (b : Block) (u : List Instruction) (l : List ℕ) (C : Instructions b u) (t : ℕ) (s : List ℕ) (w : Timed t s) (m : ℕ) (few : m < b.n) (sixty : b.n ≤ 60) where
  abbrev x : ℕ
  x = start s (node EX m)

  -- m's unit is free from the end of its EX on, if it has started
  run_ended : (e t' : ℕ) → t ≤ t' → (leb e t' && not (runs (chosen b l) t' s m)) ≡ leb (pick (eqb x not_started) e (max e (x + get_or l m 0))) t'
  unfolding runs finish
  run_ended e t' a =
      by_test (eqb x not_started)
      (λ q. rw (has, q, and-true) refl)
      (λ q.
      let early : x ≤ t = ⊎_elim (λ h. h) (λ h. absurd (eqb-false x not_started q h)) (w.each (node EX m)) in
      rw (has, q, le-leb x t' (omega arith), chosen_ex b l m, not_ltb t' (x + get_or l m 0)) (both_le e (x + get_or l m 0) t'))
    where
      has : started s (node EX m) ≡ not (eqb x not_started)
      has = started_is s (node EX m) (omega (arith, w.long))

  pub before_more : (ends : List ℕ) (k r : ℕ) → k ≡ kind_of u m → k ≤ 3
      → r ≡ pick (eqb x not_started) (get_or ends k 0) (max (get_or ends k 0) (x + get_or l m 0))
      → Before b (chosen b l) t s m ends → Before b (chosen b l) t s (m + 1) (set ends k r)
  before_more ends k r is most e h =
      record {
        four = length-set ends k r ∙ h.four;
        free = λ j t' a.
            none_more (holds b (chosen b l) t' s j) m
            ∙ ap (λ (y : Bool). y && not (holds b (chosen b l) t' s j m)) (h.free j t' a)
            ∙ by_test (eqb (entry b m).kind j)
            (λ q. own j t' a (eqb-true (entry b m).kind j q))
            (λ q. other j t' q);
      }
    where
      kind : k ≡ (entry b m).kind
      kind = is ∙ C.kind m few

      own : (j t' : ℕ) → t ≤ t' → (entry b m).kind ≡ j
          → (leb (get_or ends j 0) t' && not (holds b (chosen b l) t' s j m)) ≡ leb (get_or (set ends k r) j 0) t'
      own j t' a q =
          rw (sym q ∙ sym kind)
          (rw (eq-eqb (entry b m).kind k (sym kind), get_or-set_same ends k r 0 (omega (arith, h.four)), e) (run_ended (get_or ends k 0) t' a))

      other : (j t' : ℕ) → eqb (entry b m).kind j ≡ false
          → (leb (get_or ends j 0) t' && not (holds b (chosen b l) t' s j m)) ≡ leb (get_or (set ends k r) j 0) t'
      other j t' q =
          rw (q, and-true, get_or-set_other ends k j r 0 (λ z. eqb-false (entry b m).kind j q (sym kind ∙ sym z))) refl
