-- The turns of a cycle, node by node, and the four tests of a turn. Assumes nothing.
use Prim.Native.Nat.{ℕ, zero, suc, ◌+◌, ◌≤◌, ◌<◌, min}
use mathlib.Core.Path.{◌≡◌, refl, sym, ap, ◌∙◌}
use mathlib.Core.Bool.{Bool, true, false, and-false, not, ◌&&◌, ◌||◌, false≢true}
use mathlib.Core.List.{List}
use mathlib.Core.Logic.{◌⊎◌}
use native.Mathlib.Omega.{arith}
use lib.Dec.{leb, ltb, eqb}
use lib.ListN.{length, length-set}
use lib.Seq.{get_or-set_same, get_or-set_other}
use borrow.Author.Tests.{lt-ltb, ltb-true, ltb-false, le-leb, leb-true, eq-eqb, ne_eqb, eqb-true, eqb-false, not-true, not-false}
use Rattle.lists.specs.Lists.{In, pick}
use Rattle.lists.specs.Sums.{all}
use Rattle.lists.proofs.Bools.{by_test, and_left, and_right, and_both}
use Rattle.lists.proofs.Members.{all_each, each_all}
use Rattle.record.specs.declared.Block.{Block}
use Rattle.model.specs.Nodes.{instruction, is_ex, entry, finish_into, order_into}
use Rattle.model.specs.Cycles.{not_started, start, started, finish, free, begins, turns}

-- ---- a start, or not started
pub started_is : (s : List ℕ) (v : ℕ) → v < length s → started s v ≡ not (eqb (start s v) not_started)
unfolding started
started_is s v l = rw (lt-ltb v (length s) l) refl

pub started_yes : (s : List ℕ) (v : ℕ) → v < length s → start s v < not_started → started s v ≡ true
started_yes s v l h = rw (started_is s v l, ne_eqb (start s v) not_started (λ q. omega arith)) refl

pub started_not : (s : List ℕ) (v : ℕ) → started s v ≡ true → start s v ≡ not_started → ⊥
unfolding started
started_not s v h e = eqb-false (start s v) not_started (not-true _ (and_right (ltb v (length s)) _ h)) e

pub unstarted : (s : List ℕ) (v : ℕ) → start s v ≡ not_started → started s v ≡ false
unfolding started
unstarted s v e = rw (eq-eqb (start s v) not_started e) (and-false (ltb v (length s)))

pub unstarted_start : (s : List ℕ) (v : ℕ) → v < length s → started s v ≡ false → start s v ≡ not_started
unstarted_start s v l h = eqb-true (start s v) not_started (not-false _ (sym (started_is s v l) ∙ h))

-- the start of node v, or the horizon H where it has not started
abbrev pub seen : ℕ → List ℕ → ℕ → ℕ
seen H s v = min (start s v) H

-- what the starts of a state of cycle H are
abbrev pub Known : ℕ → ℕ → Type 0
Known H x = (x < H) ⊎ (x ≡ not_started)

-- ---- the turns of a cycle, node by node
module _ (b : Block) (lat : ℕ → ℕ) (t : ℕ) (s : List ℕ) where
  -- node u starts at its turn
  abbrev pub begun : ℕ → Bool
  begun u = begins b lat t (turns b lat t s u) u

  pub turns_length : (k : ℕ) → length (turns b lat t s k) ≡ length s
  unfolding turns
  turns_length zero = refl
  turns_length (suc k) = by_test (begun k) (λ e. rw (e, length-set) (turns_length k)) (λ e. rw e (turns_length k))

  -- a node whose turn has not come
  pub turns_later : (k u : ℕ) → k ≤ u → start (turns b lat t s k) u ≡ start s u
  unfolding turns
  turns_later zero u h = refl
  turns_later (suc k) u h =
      by_test (begun k)
      (λ e. rw e (get_or-set_other (turns b lat t s k) k u t 0 (λ q. omega arith) ∙ turns_later k u (omega arith)))
      (λ e. rw e (turns_later k u (omega arith)))

  -- one that has just had it
  turns_own : (u : ℕ) → u < length s → start (turns b lat t s (suc u)) u ≡ pick (begun u) t (start s u)
  unfolding turns
  turns_own u h =
      by_test (begun u)
      (λ e. rw e (get_or-set_same (turns b lat t s u) u t 0 (omega (arith, turns_length u))))
      (λ e. rw e (turns_later u u (omega arith)))

  turns_skip : (k u : ℕ) → u < k → start (turns b lat t s (suc k)) u ≡ start (turns b lat t s k) u
  unfolding turns
  turns_skip k u h =
      by_test (begun k)
      (λ e. rw e (get_or-set_other (turns b lat t s k) k u t 0 (λ q. omega arith)))
      (λ e. rw e refl)

  -- one whose turn is over
  pub turns_below : (k u : ℕ) → u < k → k ≤ length s → start (turns b lat t s k) u ≡ pick (begun u) t (start s u)
  turns_below zero u h g = absurd (omega arith)
  turns_below (suc k) u h g =
      by_test (ltb u k)
      (λ e. let l = ltb-true u k e in turns_skip k u l ∙ turns_below k u l (omega arith))
      (λ e. let q : k ≡ u = omega (arith, ltb-false u k e) in rw q (turns_own u (omega arith)))

  -- where no node begins, all stays
  pub turns_none : (k : ℕ) → ((u : ℕ) → u < k → begins b lat t s u ≡ false) → turns b lat t s k ≡ s
  unfolding turns
  turns_none zero h = refl
  turns_none (suc k) h = rw (turns_none k (λ u l. h u (omega arith)), h k (omega arith)) refl

-- ---- the four tests of a turn
pub record Begins (b : Block) (lat : ℕ → ℕ) (t : ℕ) (s : List ℕ) (v : ℕ) : Type 0 where
  pub waiting : started s v ≡ false
  pub finished : (u : ℕ) → In u (finish_into b v) → (start s u + lat u ≤ t) × (started s u ≡ true)
  pub ordered : (u : ℕ) → In u (order_into b v) → started s u ≡ true
  pub unit : is_ex v ≡ true → free b lat t s (entry b (instruction v)).kind ≡ true

module _ (b : Block) (lat : ℕ → ℕ) (t : ℕ) (s : List ℕ) (v : ℕ) where
  abbrev arrived : ℕ → Bool
  arrived u = started s u && leb (finish lat s u) t

  abbrev served : Bool
  served = not (is_ex v) || free b lat t s (entry b (instruction v)).kind

  serve : served ≡ true → is_ex v ≡ true → free b lat t s (entry b (instruction v)).kind ≡ true
  serve h e = rw e at h

  serves : (is_ex v ≡ true → free b lat t s (entry b (instruction v)).kind ≡ true) → served ≡ true
  serves h = by_test (is_ex v) (λ e. rw e (h e)) (λ e. rw e refl)

  pub begins_means : begins b lat t s v ≡ true → Begins b lat t s v
  unfolding begins finish
  begins_means h =
      let x = and_left _ served h in
      let y = and_left _ (all (started s) (order_into b v)) x in
      let f = all_each arrived (finish_into b v) (and_right (not (started s v)) _ y) in
      record {
        waiting = not-true _ (and_left (not (started s v)) _ y);
        finished = λ u i. (leb-true (start s u + lat u) t (and_right (started s u) _ (f u i)), and_left (started s u) _ (f u i));
        ordered = all_each (started s) (order_into b v) (and_right (not (started s v) && all arrived (finish_into b v)) _ x);
        unit = serve (and_right (not (started s v) && all arrived (finish_into b v) && all (started s) (order_into b v)) _ h);
      }

  pub means_begins : Begins b lat t s v → begins b lat t s v ≡ true
  unfolding begins finish
  means_begins h =
      and_both (not (started s v) && all arrived (finish_into b v) && all (started s) (order_into b v)) served
      (and_both (not (started s v) && all arrived (finish_into b v)) (all (started s) (order_into b v))
      (and_both (not (started s v)) (all arrived (finish_into b v)) (ap not h.waiting)
      (each_all arrived (finish_into b v) (λ u i. and_both (started s u) _ (h.finished u i).1 (le-leb (start s u + lat u) t (h.finished u i).0))))
      (each_all (started s) (order_into b v) h.ordered))
      (serves h.unit)

-- a node that has started does not begin again
pub started_stays : (b : Block) (lat : ℕ → ℕ) (t : ℕ) (s : List ℕ) (v : ℕ) → started s v ≡ true → begins b lat t s v ≡ false
started_stays b lat t s v h =
    by_test (begins b lat t s v) (λ e. absurd (false≢true (sym (begins_means b lat t s v e).waiting ∙ h))) (λ e. e)
