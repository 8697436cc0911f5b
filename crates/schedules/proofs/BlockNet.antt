-- The net of an accepted block: its nodes, edges and units as the model has them. Lower limits of the latencies are left
-- open. Assumes nothing.
use Prim.Native.Nat.{ℕ, zero, suc, ◌+◌, ◌*◌, ◌-◌, ◌≤◌, ◌<◌}
use mathlib.Core.Path.{◌≡◌, refl, sym, ap, ◌∙◌}
use mathlib.Core.Bool.{Bool, false}
use mathlib.Core.List.{List, [], ◌∷◌, map, map-append}
use native.Mathlib.Omega.{arith}
use native.Mathlib.Nat.{add-zero}
use lib.ListN.{length, length-map}
use borrow.Author.Tests.{ne_eqb}
use Rattle.lists.specs.Lists.{In, pick, numbers_where, numbers_where_from}
use Rattle.lists.proofs.Bools.{by_test}
use Rattle.lists.proofs.Members.{in_map, map_in}
use Rattle.lists.proofs.Sums.{largest_in, largest_most}
use Rattle.lists.proofs.NumbersWhere.{numbers_where_split, numbers_where_none, numbers_where_more}
use Rattle.record.specs.declared.Block.{Block}
use Rattle.record.proofs.AcceptedRanges.{Ranges}
use Rattle.model.specs.Nodes.{EX, nodes, node, stage, instruction, is_ex, entry, highest, finish_into, order_into}
use Rattle.model.specs.Cycles.{start, finish, units, ready}
use Rattle.model.proofs.Predecessors.{finish_below, order_below, order_off_ex}
use Rattle.schedules.specs.inside.Nets.{Net, Done}

-- ---- the net
pub units_some : (b : Block) (k : ℕ) → 1 ≤ units b k
unfolding units
units_some b k = omega arith

module _ (b : Block) (A : Ranges b) (lo : ℕ → ℕ) (pos : (v : ℕ) → v < nodes b → 1 ≤ lo v) where
  abbrev pub net : Net
  net =
      record {
        N = nodes b;
        Fin = λ u v. In u (finish_into b v);
        Ord = λ u v. In u (order_into b v);
        lo = lo;
        hi = highest b;
        ex = is_ex;
        kind = λ v. (entry b (instruction v)).kind;
        units = units b;
        fin_lt = finish_below b A;
        ord_lt = order_below b A;
        ex_ord = λ u v t h. order_off_ex b u v h t;
        lo_pos = pos;
        units_pos = units_some b;
      }

-- ---- a node is ready by x exactly if its ready time is at most x
module _ (b : Block) (A : Ranges b) (lo : ℕ → ℕ) (pos : (v : ℕ) → v < nodes b → 1 ≤ lo v) (lat : ℕ → ℕ) (s : List ℕ) (v : ℕ) where
  pub ready_done : (x : ℕ) → ready b lat s v ≤ x → Done (net b A lo pos) lat (start s) v x
  unfolding ready finish
  ready_done x h =
      record {
        fin = λ u i. omega (arith, largest_in (map (finish lat s) (finish_into b v)) (start s u + lat u) (map_in (finish lat s) u (finish_into b v) i));
        ord = λ u i. omega (arith, largest_in (map (start s) (order_into b v)) (start s u) (map_in (start s) u (order_into b v) i));
      }

  pub done_ready : (x : ℕ) → Done (net b A lo pos) lat (start s) v x → ready b lat s v ≤ x
  unfolding ready finish
  done_ready x d =
      omega (
        arith,
        largest_most x (map (finish lat s) (finish_into b v))
            (λ y i. let r = in_map (finish lat s) y (finish_into b v) i in omega (arith, r.2, d.fin r.0 r.1)),
        largest_most x (map (start s) (order_into b v))
            (λ y i. let r = in_map (start s) y (order_into b v) i in omega (arith, r.2, d.ord r.0 r.1)),
      )

-- ---- the nodes at which a test holds that holds of EX alone are those of their instructions
module _ (p : ℕ → Bool) (only_ex : (u : ℕ) → is_ex u ≡ false → p u ≡ false) where
  -- the nodes of instruction m
  nodes_of : (m : ℕ) → numbers_where (5 * m) (5 * (m + 1)) p ≡ map (node EX) (pick (p (node EX m)) (m ∷ []) [])
  unfolding numbers_where numbers_where_from
  nodes_of m =
      let five : 5 * (m + 1) - 5 * m ≡ 5 = omega arith in
      let ex : 5 * m + 2 ≡ suc (suc (5 * m)) = omega arith in
      rw (
        five,
        off (5 * m) (λ q. omega arith),
        off (suc (5 * m)) (λ q. omega arith),
        off (suc (suc (suc (5 * m)))) (λ q. omega arith),
        off (suc (suc (suc (suc (5 * m))))) (λ q. omega arith),
        ex,
      ) (by_test (p (suc (suc (5 * m)))) (λ t. rw (t, ex) refl) (λ t. rw t refl))
    where
      off : (u : ℕ) → (stage u ≡ EX → ⊥) → p u ≡ false
      off u h = only_ex u (ne_eqb (stage u) EX h)

  nodes_from : (a k : ℕ) → numbers_where (5 * a) (5 * (a + k)) p ≡ map (node EX) (numbers_where a (a + k) (λ j. p (node EX j)))
  nodes_from a zero = rw (add-zero a, numbers_where_none p (5 * a), numbers_where_none (λ j. p (node EX j)) a) refl
  nodes_from a (suc k) =
      let e : a + suc k ≡ a + k + 1 = omega arith in
      rw (
        e,
        numbers_where_split p (5 * a) (5 * (a + k)) (5 * (a + k + 1)) (omega arith) (omega arith),
        nodes_from a k,
        nodes_of (a + k),
        numbers_where_more (λ j. p (node EX j)) a (a + k) (omega arith),
      ) (sym (map-append (node EX) (numbers_where a (a + k) (λ j. p (node EX j))) _))

  pub numbers_where_ex : (a n : ℕ) → a ≤ n → numbers_where (5 * a) (5 * n) p ≡ map (node EX) (numbers_where a n (λ j. p (node EX j)))
  numbers_where_ex a n l = let e : n ≡ a + (n - a) = omega arith in rw e (nodes_from a (n - a))

  -- so they are as many
  pub count_ex : (n : ℕ) → length (numbers_where 0 (5 * n) p) ≡ length (numbers_where 0 n (λ j. p (node EX j)))
  count_ex n = ap length (numbers_where_ex 0 n (omega arith)) ∙ length-map (numbers_where 0 n (λ j. p (node EX j))) (node EX)
