-- The steps from EX to EX: a step leads up, it is a path, and every edge that enters an EX from a WB is part of one. All that
-- the chains need of them is here. Assumes nothing.
use Prim.Native.Nat.{ℕ, ◌+◌, ◌<◌}
use mathlib.Core.Path.{◌≡◌, refl, subst}
use mathlib.Core.Logic.{inl, inr}
use native.Mathlib.Omega.{arith}
use Rattle.lists.specs.Lists.{In}
use Rattle.lists.proofs.Members.{in_left, in_right}
use Rattle.record.specs.declared.Block.{Block}
use Rattle.model.specs.Nodes.{nodes, EX, WB, node, edges, finish_edges, sources, finish_into, order_into}
use Rattle.model.specs.Paths.{edges_into, Edge, Path}
use Rattle.model.specs.Paths.Path.{edge, on}
use Rattle.model.specs.inside.RegisterChains.{links}
use Rattle.model.proofs.Predecessors.{finish_on, source_on, sources_before}

-- one path after another
pub path_then : (b : Block) (u v w : ℕ) → Path b u v → Path b v w → Path b u w
path_then b u v w p (edge e) = on p e
path_then b u v w p (on {x = x} q e) = on (path_then b u v x p q) e

-- ---- edges between instructions below n
module _ (b : Block) where
  pub finish_edge : (u v : ℕ) → v < nodes b → In u (finish_into b v) → Edge b u v
  unfolding edges_into
  finish_edge u v l h = record { there = l; from = in_left u (finish_into b v) (order_into b v) h }

  pub order_edge : (u v : ℕ) → v < nodes b → In u (order_into b v) → Edge b u v
  unfolding edges_into
  order_edge u v l h = record { there = l; from = in_right u (finish_into b v) (order_into b v) h }

  -- from one stage of an instruction to another
  pub within : (g h i : ℕ) → h < 5 → i < b.n → In (edges g h 0) (finish_edges b) → Edge b (node g i) (node h i)
  within g h i l k m =
      let e : i + 0 ≡ i = omega arith in
      finish_edge (node g i) (node h i) (omega arith)
      (subst (λ (x : ℕ). In (node g i) (finish_into b (node h x))) e (finish_on b g h 0 i l m))

  pub ex_wb : (i : ℕ) → i < b.n → Edge b (node EX i) (node WB i)
  unfolding finish_edges
  ex_wb i k = within EX WB i (omega arith) k (inr (inr (inl refl)))

  wb_ex : (i j : ℕ) → j < b.n → In i (sources b j) → Edge b (node WB i) (node EX j)
  wb_ex i j k h = finish_edge (node WB i) (node EX j) (omega arith) (source_on b i j h)

  -- ---- the laws of a step

  -- it leads up
  pub links_before : (i j : ℕ) → In i (links b j) → i < j
  links_before i j h = sources_before b j i h

  -- it is a path
  pub link_path : (i j : ℕ) → j < b.n → In i (links b j) → Path b (node EX i) (node EX j)
  link_path i j k h = on (edge (ex_wb i (omega (arith, links_before i j h)))) (wb_ex i j k h)

  -- an edge from WB(i) to EX(j) is the end of one
  pub source_link : (i j : ℕ) → In i (sources b j) → In i (links b j)
  source_link i j h = h
