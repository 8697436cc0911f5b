-- What is computed as reached is what a path leads to; so two EX nodes contend exactly if their kinds are equal and there
-- is no path from one to the other. Assumes nothing.
use Prim.Native.Nat.{ℕ, zero, suc, ◌<◌}
use mathlib.Core.Path.{◌≡◌, refl, sym, ap, ◌∙◌, subst}
use mathlib.Core.Bool.{Bool, true, false, not, ◌&&◌, ◌||◌, false≢true, and_assoc, and_comm}
use mathlib.Core.Logic.{◌⊎◌, inl, inr}
use native.Mathlib.Omega.{arith}
use lib.ListN.{get_or}
use lib.Dec.{eqb}
use borrow.Author.Tests.{eqb-true, eqb-false, eq-eqb, ne_eqb}
use Rattle.lists.specs.Lists.{In}
use Rattle.lists.specs.Sums.{any}
use Rattle.lists.proofs.Bools.{by_test, and_left, and_right, and_both, or_cases, or_first, or_second}
use Rattle.lists.proofs.Members.{any_find, any_in, any_ext}
use Rattle.lists.proofs.InOrder.{in_order_keeps}
use Rattle.record.specs.declared.Block.{Block}
use Rattle.record.proofs.AcceptedRanges.{Ranges}
use Rattle.model.specs.Nodes.{EX, nodes, node, entry}
use Rattle.model.specs.Paths.{edges_into, Path, reached, has, pairs, paths, Contends, contend, contending}
use Rattle.model.specs.Paths.Path.{edge, on}
use Rattle.model.proofs.Predecessors.{edges_below}
use Rattle.model.proofs.PairSets.{has_pairs, has_below}

module _ (b : Block) (A : Ranges b) (u : ℕ) where
  -- p is u, or a path leads to it
  abbrev from_u : ℕ → Bool
  from_u p = eqb p u || get_or (reached b u) p false

  reached_is : (v : ℕ) → v < nodes b → get_or (reached b u) v false ≡ any from_u (edges_into b v)
  unfolding reached
  reached_is =
      in_order_keeps (λ before v. any (λ p. eqb p u || get_or before p false) (edges_into b v)) false
      (λ s t v same.
      any_ext (λ p. eqb p u || get_or s p false) (λ p. eqb p u || get_or t p false) (edges_into b v)
      (λ p i. ap (λ (x : Bool). eqb p u || x) (same p (edges_below b A p v i))))
      (nodes b)

  path_if_below : (v : ℕ) → v < nodes b → ((p : ℕ) → p < v → get_or (reached b u) p false ≡ true → Path b u p) → get_or (reached b u) v false ≡ true → Path b u v
  path_if_below v l ih t =
      let r = any_find from_u (edges_into b v) (sym (reached_is v l) ∙ t) in
      by_last_edge r.0 r.1 (or_cases (eqb r.0 u) (get_or (reached b u) r.0 false) r.2)
    where
      by_last_edge : (p : ℕ) → In p (edges_into b v) → (eqb p u ≡ true) ⊎ (get_or (reached b u) p false ≡ true) → Path b u v
      by_last_edge p i (inl e) = edge (record { there = l; from = subst (λ (x : ℕ). In x (edges_into b v)) (eqb-true p u e) i })
      by_last_edge p i (inr h) = on (ih p (edges_below b A p v i) h) (record { there = l; from = i })

  path_below : (k v : ℕ) → v < k → v < nodes b → get_or (reached b u) v false ≡ true → Path b u v
  path_below zero v h l t = absurd (omega arith)
  path_below (suc k) v h l t = path_if_below v l (λ p o. path_below k p (omega arith) (omega arith)) t

  -- WHAT IS REACHED HAS A PATH
  pub reached_path : (v : ℕ) → v < nodes b → get_or (reached b u) v false ≡ true → Path b u v
  reached_path v l t = path_below (suc v) v (omega arith) l t

  reached_by_edge : (p v : ℕ) → v < nodes b → In p (edges_into b v) → from_u p ≡ true → get_or (reached b u) v false ≡ true
  reached_by_edge p v l i h = reached_is v l ∙ any_in from_u (edges_into b v) p i h

-- AND WHAT HAS A PATH IS REACHED
pub path_reached : (b : Block) (A : Ranges b) (u v : ℕ) → Path b u v → get_or (reached b u) v false ≡ true
path_reached b A u v (edge i) = reached_by_edge b A u u v i.there i.from (or_first (eqb u u) _ (eq-eqb u u refl))
path_reached b A u v (on {x = x} p i) = reached_by_edge b A u x v i.there i.from (or_second (eqb x u) _ (path_reached b A u x p))

-- and leads to a node of the block
pub path_there : (b : Block) (u v : ℕ) → Path b u v → v < nodes b
path_there b u v (edge i) = i.there
path_there b u v (on p i) = i.there

-- a path leads up in node order
pub path_up : (b : Block) (A : Ranges b) (u v : ℕ) → Path b u v → u < v
path_up b A u v (edge i) = edges_below b A u v i.from
path_up b A u v (on {x = x} p i) = omega (arith, path_up b A u x p, edges_below b A x v i.from)

-- ---- the table of paths between EX nodes has exactly those that there are
module _ (b : Block) (A : Ranges b) (i j : ℕ) (hi : i < b.n) (hj : j < b.n) where
  paths_at : has (paths b) i j ≡ get_or (reached b (node EX i)) (node EX j) false
  unfolding paths pairs
  paths_at = has_pairs b.n (λ k l. get_or (reached b (node EX k)) (node EX l) false) i j hi hj

  pub paths_path : has (paths b) i j ≡ true → Path b (node EX i) (node EX j)
  paths_path t = reached_path b A (node EX i) (node EX j) (omega arith) (sym paths_at ∙ t)

  pub path_paths : Path b (node EX i) (node EX j) → has (paths b) i j ≡ true
  path_paths p = paths_at ∙ path_reached b A (node EX i) (node EX j) p

-- ---- the contending pairs
pub contending_at : (b : Block) (i j : ℕ) → i < b.n → j < b.n → has (contending b) i j ≡ contend b (paths b) i j
unfolding contending
contending_at b = has_pairs b.n (contend b (paths b))

eqb_even : (i j : ℕ) → eqb i j ≡ eqb j i
eqb_even i j =
    by_test (eqb j i) (λ t. eq-eqb i j (sym (eqb-true j i t)) ∙ sym t) (λ t. ne_eqb i j (λ e. eqb-false j i t (sym e)) ∙ sym t)

and_swap : (x p q : Bool) → (x && p && q) ≡ (x && q && p)
and_swap x p q = and_assoc x p q ∙ ap (λ (y : Bool). x && y) (and_comm p q) ∙ sym (and_assoc x q p)

-- a pair contends whichever of the two is named first
pub contending_even : (b : Block) (i j : ℕ) → i < b.n → j < b.n → has (contending b) i j ≡ has (contending b) j i
unfolding contend
contending_even b i j hi hj =
    contending_at b i j hi hj
    ∙ rw (eqb_even i j, eqb_even (entry b i).kind (entry b j).kind)
    (and_swap (not (eqb j i) && eqb (entry b j).kind (entry b i).kind) (not (has (paths b) i j)) (not (has (paths b) j i)))
    ∙ sym (contending_at b j i hj hi)

-- THE TABLE HAS EXACTLY THE PAIRS THAT CONTEND
module _ (b : Block) (A : Ranges b) (i j : ℕ) where
  contending_below : has (contending b) i j ≡ true → (i < b.n) × (j < b.n)
  unfolding contending
  contending_below = has_below b.n (contend b (paths b)) i j

  pub contending_contends : has (contending b) i j ≡ true → Contends b i j
  unfolding contend
  contending_contends t =
      let hi : i < b.n = (contending_below t).0 in
      let hj : j < b.n = (contending_below t).1 in
      let k = sym (contending_at b i j hi hj) ∙ t in
      let s : (not (eqb i j) && eqb (entry b i).kind (entry b j).kind && not (has (paths b) i j)) ≡ true = and_left _ (not (has (paths b) j i)) k in
      let r : (not (eqb i j) && eqb (entry b i).kind (entry b j).kind) ≡ true = and_left _ (not (has (paths b) i j)) s in
      record {
        first = hi;
        second = hj;
        two = λ e. false≢true (sym (ap not (eq-eqb i j e)) ∙ and_left (not (eqb i j)) _ r);
        kinds = eqb-true (entry b i).kind (entry b j).kind (and_right (not (eqb i j)) _ r);
        no_path = λ p. false≢true (sym (ap not (path_paths b A i j hi hj p)) ∙ and_right (not (eqb i j) && eqb (entry b i).kind (entry b j).kind) _ s);
        no_path_back = λ p. false≢true
            (sym (ap not (path_paths b A j i hj hi p))
            ∙ and_right (not (eqb i j) && eqb (entry b i).kind (entry b j).kind && not (has (paths b) i j)) _ k);
      }

  unmarked : (x y : ℕ) (hx : x < b.n) (hy : y < b.n) → (Path b (node EX x) (node EX y) → ⊥) → not (has (paths b) x y) ≡ true
  unmarked x y hx hy f = by_test (has (paths b) x y) (λ t. absurd (f (paths_path b A x y hx hy t))) (λ t. ap not t)

  pub contends_contending : Contends b i j → has (contending b) i j ≡ true
  unfolding contend
  contends_contending c =
      let hi : i < b.n = c.first in
      let hj : j < b.n = c.second in
      contending_at b i j hi hj
      ∙ and_both _ (not (has (paths b) j i))
      (and_both _ (not (has (paths b) i j))
      (and_both (not (eqb i j)) _ (ap not (ne_eqb i j c.two)) (eq-eqb (entry b i).kind (entry b j).kind c.kinds))
      (unmarked i j hi hj c.no_path))
      (unmarked j i hj hi c.no_path_back)

module _ (b : Block) (A : Ranges b) (i j : ℕ) (hi : i < b.n) (hj : j < b.n) where
  -- SO TWO EX OF ONE KIND CONTEND, OR A PATH LEADS FROM ONE TO THE OTHER
  pub contend_or_path : (i ≡ j → ⊥) → (entry b i).kind ≡ (entry b j).kind
      → (has (contending b) i j ≡ true) ⊎ (Path b (node EX i) (node EX j) ⊎ Path b (node EX j) (node EX i))
  unfolding contend
  contend_or_path two kinds =
      by_test (has (paths b) i j) (λ t. inr (inl (paths_path b A i j hi hj t)))
      (λ f.
      by_test (has (paths b) j i) (λ t. inr (inr (paths_path b A j i hj hi t)))
      (λ g. inl (contending_at b i j hi hj ∙ rw (ne_eqb i j two, eq-eqb _ _ kinds, f, g) refl)))
