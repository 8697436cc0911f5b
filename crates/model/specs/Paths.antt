-- "Nodes and edges", its end: paths, and which EX nodes contend. What is computed is tied to what is said by four theorems in
-- proofs/Contention: reached_path, path_reached, contending_contends, contends_contending.
use Rattle.std.specs.Prelude.{ℕ, ◌<◌, ◌≡◌, Bool, false, not, ◌&&◌, ◌||◌, List, [], ◌++◌, length, get_or, eqb}
use Rattle.lists.specs.Lists.{In, tab, numbers_where, in_order}
use Rattle.lists.specs.Sums.{sum, any}
use Rattle.record.specs.declared.Block.{Block}
use Rattle.model.specs.Nodes.{EX, nodes, node, entry, finish_into, order_into}

-- "here they count as edges, also for paths": the predecessors of node v by edges of both sorts
unfoldable pub edges_into : Block → ℕ → List ℕ
edges_into b v = finish_into b v ++ order_into b v

-- "An edge to an instruction beyond n isn't there.": an edge from node u to node v of the block
pub record Edge (b : Block) (u v : ℕ) : Type 0 where
  pub there : v < nodes b
  pub from : In u (edges_into b v)

-- a path: an edge, or a path and an edge after it
pub data Path (b : Block) : ℕ → ℕ → Type 0 where
  edge : {u v : ℕ} → Edge b u v → Path b u v
  on : {u x v : ℕ} → Path b u x → Edge b x v → Path b u v

-- the same computed in node order: of each node, whether a path leads to it from u (reached_path, path_reached)
unfoldable pub reached : Block → ℕ → List Bool
reached b u = in_order (λ before v. any (λ p. eqb p u || get_or before p false) (edges_into b v)) (nodes b)

-- a set of pairs of instructions: a table with true in row i at j where it has i and j
abbrev pub Pairs : Type 0
Pairs = List (List Bool)

-- whether a set has i and j
abbrev pub has : Pairs → ℕ → ℕ → Bool
has m i j = get_or (get_or m i []) j false

-- the set of the pairs below n of which p holds
unfoldable pub pairs : ℕ → (ℕ → ℕ → Bool) → Pairs
pairs n p = tab n (λ i. tab n (p i))

-- how many pairs i before j, j below n, there are of which p holds
unfoldable pub count : ℕ → (ℕ → ℕ → Bool) → ℕ
count n p = sum (tab n (λ j. length (numbers_where 0 j (λ i. p i j))))

-- from which EX(i) a path leads to which EX(j)
unfoldable pub paths : Block → Pairs
paths b = tab b.n (λ i. let r = reached b (node EX i) in tab b.n (λ j. get_or r (node EX j) false))

-- "Two EX nodes contend if their kinds are equal and no path leads from one to the other.": those of instructions i and j.
-- "distance below W, then follows": contend_near
pub record Contends (b : Block) (i j : ℕ) : Type 0 where
  -- both are instructions of the block, and they are two
  pub first : i < b.n
  pub second : j < b.n
  pub two : i ≡ j → ⊥
  pub kinds : (entry b i).kind ≡ (entry b j).kind
  pub no_path : Path b (node EX i) (node EX j) → ⊥
  pub no_path_back : Path b (node EX j) (node EX i) → ⊥

-- the same computed, m having the paths
unfoldable pub contend : Block → Pairs → ℕ → ℕ → Bool
contend b m i j = not (eqb i j) && eqb (entry b i).kind (entry b j).kind && not (has m i j) && not (has m j i)

-- the contending pairs: those of which Contends holds (contending_contends, contends_contending)
unfoldable pub contending : Block → Pairs
contending b = let m = paths b in pairs b.n (contend b m)
