-- Times that are worked out in node order keep their rule as a whole: the earliest starts are the earliest ready times,
-- and a round's latest starts are what the round rules make of its own latest times. Assumes nothing.
use Prim.Native.Nat.{ℕ, ◌+◌, ◌<◌, max}
use mathlib.Core.Path.{◌≡◌, refl, ap, ap₂}
use mathlib.Core.Bool.{Bool}
use mathlib.Core.List.{List, map}
use native.Mathlib.Omega.{arith}
use Rattle.lists.specs.Lists.{numbers_where}
use Rattle.lists.specs.Sums.{largest}
use Rattle.lists.proofs.Members.{map_ext}
use Rattle.lists.proofs.NumbersWhere.{numbers_where_in}
use Rattle.lists.proofs.InOrder.{in_order_keeps}
use Rattle.record.specs.declared.Block.{Block}
use Rattle.record.proofs.AcceptedRanges.{Ranges}
use Rattle.model.specs.Nodes.{EX, nodes, node, instruction, lowest, highest, finish_into, order_into}
use Rattle.model.specs.Paths.{Pairs}
use Rattle.model.specs.Cycles.{start, finish, ready}
use Rattle.model.specs.Rounds.{earliest, R, rival, latest_ex, latest_start, round}
use Rattle.model.proofs.Predecessors.{finish_below, order_below}

module _ (b : Block) (A : Ranges b) where
  -- ready looks at the nodes before v alone
  pub ready_looks : (lat : ℕ → ℕ) (s t : List ℕ) (v : ℕ) → ((u : ℕ) → u < v → start s u ≡ start t u) → ready b lat s v ≡ ready b lat t v
  unfolding ready finish
  ready_looks lat s t v same =
      ap₂ max
      (ap largest (map_ext _ _ (finish_into b v) (λ u i. ap (λ (x : ℕ). x + lat u) (same u (finish_below b A u v i)))))
      (ap largest (map_ext _ _ (order_into b v) (λ u i. same u (order_below b A u v i))))

  -- EARLIEST START IS EARLIEST READY
  pub earliest_is : (v : ℕ) → v < nodes b → start (earliest b) v ≡ ready b (lowest b) (earliest b) v
  unfolding earliest
  earliest_is = in_order_keeps (ready b (lowest b)) 0 (ready_looks (lowest b)) (nodes b)

  module _ (rivals : ℕ → ℕ → Bool) where
    finishes_look : (s t : List ℕ) (v : ℕ) → ((u : ℕ) → u < v → start s u ≡ start t u)
        → map (λ j. finish (highest b) s (node EX j)) (numbers_where 0 (instruction v) (rivals (instruction v)))
        ≡ map (λ j. finish (highest b) t (node EX j)) (numbers_where 0 (instruction v) (rivals (instruction v)))
    unfolding finish
    finishes_look s t v same =
        map_ext _ _ (numbers_where 0 (instruction v) (rivals (instruction v)))
        (λ j i.
        let r = numbers_where_in (rivals (instruction v)) 0 (instruction v) j i in
        ap (λ (x : ℕ). x + highest b (node EX j)) (same (node EX j) (omega (arith, r.1))))

    -- so does the latest start
    pub latest_looks : (s t : List ℕ) (v : ℕ) → ((u : ℕ) → u < v → start s u ≡ start t u) → latest_start b rivals s v ≡ latest_start b rivals t v
    unfolding latest_start latest_ex R
    latest_looks s t v same = rw (ready_looks (highest b) s t v same, finishes_look s t v same) refl

  -- A ROUND'S LATEST STARTS KEEP THE ROUND RULES
  pub round_is : (con known : Pairs) (v : ℕ) → v < nodes b → start (round b con known) v ≡ latest_start b (rival con known) (round b con known) v
  unfolding round
  round_is con known = in_order_keeps (latest_start b (rival con known)) 0 (latest_looks (rival con known)) (nodes b)
