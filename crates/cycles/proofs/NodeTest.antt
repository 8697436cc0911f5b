-- What the code asks of a node in a cycle is what the model's `begins` asks. Assumes nothing.
use Prim.Native.Nat.{ℕ, ◌+◌, ◌<◌, max}
use mathlib.Core.Path.{◌≡◌, refl, sym, ap, ◌∙◌}
use mathlib.Core.Bool.{Bool, true, false, not, ◌&&◌, ◌||◌, and-true}
use mathlib.Core.List.{List, [], ◌∷◌, map}
use mathlib.Core.Logic.{⊎_elim, inl, inr}
use native.Mathlib.Omega.{arith}
use lib.Dec.{leb, eqb}
use lib.ListN.{get_or}
use borrow.Author.Tests.{le-leb, lt-leb, leb-true, leb-false, eq-eqb, ne_eqb}
use Rattle.lists.specs.Sums.{largest, all}
use Rattle.lists.proofs.Bools.{by_test, each, ◌▹◌, end}
use Rattle.record.specs.declared.Block.{Block}
use Rattle.model.specs.Nodes.{EX, node, instruction, is_ex, entry, chosen, finish_into, order_into, nodes}
use Rattle.model.specs.Cycles.{not_started, start, started, finish, free, begins, ready}
use Rattle.unpacked.specs.inside.UnpackedBlock.{Unpacked}
use Rattle.unpacked.specs.declared.UnpackedBlock.{UnpackedBlock}
use Rattle.model.proofs.Latencies.{stage_node, instruction_node, chosen_if, chosen_else, chosen_ex}
use Rattle.unpacked.proofs.ReadyTimes.{ready_if_lem, ready_id_lem, ready_ex_lem, ready_wb_lem, ready_cm_lem}
use Rattle.unpacked.specs.inside.StageNumbers.{number}
use Rattle.cycles.specs.inside.NodeTurn.{stage_ready, from_when, node_of, starting}
use Rattle.cycles.specs.inside.PlayFacts.{Timed, Units}
use Rattle.cycles.specs.declared.Turn.{Turn}
use Rattle.lists.specs.Lists.{In}
use Rattle.record.proofs.AcceptedRanges.{Ranges, ranges}
use Rattle.model.proofs.Predecessors.{finish_below, order_below}
use Rattle.schedules.proofs.CycleTurns.{started_is}

-- ---- tests of times
pub both_le : (x y t : ℕ) → (leb x t && leb y t) ≡ leb (max x y) t
both_le x y t =
    by_test (leb x t)
    (λ e.
    by_test (leb y t)
    (λ f. rw (e, f) (sym (le-leb (max x y) t (omega (arith, leb-true x t e, leb-true y t f)))))
    (λ f. rw (e, f) (sym (lt-leb (max x y) t (omega (arith, leb-false y t f))))))
    (λ e. rw e (sym (lt-leb (max x y) t (omega (arith, leb-false x t e)))))

all_le : (p : ℕ → Bool) (f : ℕ → ℕ) (t : ℕ) (xs : List ℕ) → ((u : ℕ) → In u xs → p u ≡ leb (f u) t) → all p xs ≡ leb (largest (map f xs)) t
unfolding all largest
all_le p f t [] h = sym (le-leb 0 t (omega arith))
all_le p f t (x ∷ xs) h = rw (h x (inl refl), all_le p f t xs (λ u i. h u (inr i))) (both_le (f x) (largest (map f xs)) t)

and_four : (x y z o : Bool) → (x && y && z && o) ≡ (x && ((y && z) && o))
and_four true y z o = refl
and_four false y z o = refl

-- ---- a node in cycle t
module _ (t : ℕ) (s : List ℕ) (w : Timed t s) where
  -- what has started has done so by now
  pub started_le : (u : ℕ) → u < 300 → started s u ≡ leb (start s u) t
  started_le u l =
      started_is s u (omega (arith, w.long))
      ∙ ⊎_elim
      (λ h. rw (le-leb (start s u) t h, ne_eqb (start s u) not_started (λ e. omega (arith, w.now))) refl)
      (λ e. rw (eq-eqb (start s u) not_started e) (sym (lt-leb (start s u) t (omega (arith, w.now)))))
      (w.each u)

  module _ (lat : ℕ → ℕ) where
    finished_le : (u : ℕ) → u < 300 → (started s u && leb (finish lat s u) t) ≡ leb (finish lat s u) t
    unfolding finish
    finished_le u l =
        by_test (leb (start s u) t)
        (λ e. rw (started_le u l, e) refl)
        (λ e. rw (started_le u l, e) (sym (lt-leb (start s u + lat u) t (omega (arith, leb-false (start s u) t e)))))

    -- all that a node waits for, but a unit
    waits : (b : Block) (A : Ranges b) (v : ℕ) → v < nodes b
        → (all (λ u. started s u && leb (finish lat s u) t) (finish_into b v) && all (started s) (order_into b v)) ≡ leb (ready b lat s v) t
    unfolding ready
    waits b A v l =
        rw (
          all_le (λ u. started s u && leb (finish lat s u) t) (finish lat s) t (finish_into b v)
              (λ u i. finished_le u (omega (arith, finish_below b A u v i, A.n.1))),
          all_le (started s) (start s) t (order_into b v) (λ u i. started_le u (omega (arith, order_below b A u v i, A.n.1))),
        )
        (both_le (largest (map (finish lat s) (finish_into b v))) (largest (map (start s) (order_into b v))) t)

    -- the model's test, by the ready time
    begins_ready : (b : Block) (A : Ranges b) (v : ℕ) → v < nodes b
        → begins b lat t s v ≡ (not (started s v) && (leb (ready b lat s v) t && (not (is_ex v) || free b lat t s (entry b (instruction v)).kind)))
    unfolding begins
    begins_ready b A v l =
        and_four (not (started s v)) _ (all (started s) (order_into b v)) _
        ∙ ap (λ (x : Bool). not (started s v) && (x && (not (is_ex v) || free b lat t s (entry b (instruction v)).kind))) (waits b A v l)

module _ (b : Block) (u : UnpackedBlock) (U : Unpacked b u.shape u.instructions) (l : List ℕ) where
  -- what the code works out is the model's ready time
  stage_ready_lem : (s : List ℕ) (i g : ℕ) → i < b.n → g < 5 → stage_ready u l s i g ≡ ready b (chosen b l) s (node g i)
  unfolding stage_ready
  stage_ready_lem s i g m k =
      let fetches = chosen_if b l in
      let one = chosen_else b l in
      each (λ (x : ℕ). stage_ready u l s i x ≡ ready b (chosen b l) s (node x i)) 5
      (rw (U.shape.q, U.shape.f) (sym (ready_if_lem b (chosen b l) fetches one s i))
      ▹ rw (U.shape.w, U.shape.d) (sym (ready_id_lem b (chosen b l) fetches one s i))
      ▹ rw (U.instructions.first i m, U.instructions.second i m) (sym (ready_ex_lem b (chosen b l) fetches one s i))
      ▹ rw (← chosen_ex b l i) (sym (ready_wb_lem b (chosen b l) fetches one s i))
      ▹ rw U.shape.c (sym (ready_cm_lem b (chosen b l) fetches one s i))
      ▹ end)
      g k

  -- what the code tests is what the model does
  pub begins_starting : (x : Turn) (s ends : List ℕ) → Timed x.t s → Units b (chosen b l) x.t s ends → x.i < b.n → number x.g < 5
      → begins b (chosen b l) x.t s (node_of x) ≡ starting u l x s ends
  unfolding starting from_when
  begins_starting x s ends w o m k =
      let t = x.t in
      let i = x.i in
      let g = number x.g in
      begins_ready t s w (chosen b l) b (ranges b U.accepted) (node g i) (omega arith)
      ∙ ap (λ (y : Bool). not (started s (node g i)) && y)
      (rw (stage_node g i k, instruction_node g i k, stage_ready_lem s i g m k)
      (by_test (eqb g EX)
      (λ e.
      rw (e, U.instructions.kind i m, o.free (entry b i).kind t (omega arith))
      (both_le (ready b (chosen b l) s (node g i)) (get_or ends (entry b i).kind 0) t))
      (λ e. rw (e, and-true) refl)))
