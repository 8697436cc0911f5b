-- The model's ready time of each stage, edge by edge, where every latency but those of an IF and an EX is 1. Assumes nothing.
use Prim.Native.Nat.{ℕ, zero, suc, ◌+◌, ◌-◌, ◌<◌, max}
use mathlib.Core.Path.{◌≡◌, refl, sym, ap, ◌∙◌}
use mathlib.Core.Bool.{◌&&◌}
use mathlib.Core.List.{List, [], ◌∷◌, ◌++◌, map, map-append}
use native.Mathlib.Omega.{arith}
use native.Mathlib.Nat.{max-zero, zero-max, sub-zero}
use lib.Dec.{leb, eqb, leb-zero}
use borrow.Author.Tests.{lt-ltb}
use Rattle.lists.specs.Lists.{pick}
use Rattle.lists.specs.Sums.{largest}
use Rattle.lists.proofs.Bools.{by_test}
use Rattle.lists.proofs.Sums.{largest_append}
use Rattle.record.specs.declared.Block.{Block}
use Rattle.model.specs.Nodes.{IF, ID, EX, WB, CM, node, entry, fetch, Edges, finish_edges, last_writer, source, sources, order_edges, into, finish_into, order_into}
use Rattle.model.specs.Cycles.{start, finish, ready}
use Rattle.model.proofs.Latencies.{stage_node, instruction_node}
use Rattle.unpacked.specs.inside.ReadyByStage.{finish_back, start_back, finish_source, ready_if, ready_id, ready_ex, ready_wb, ready_cm}
use Rattle.unpacked.specs.inside.UnpackedBlock.{code}

add_sub : (j : ℕ) → j + 1 - 1 ≡ j
add_sub j = omega arith

-- ---- the largest of some numbers
largest_map_append : (f : ℕ → ℕ) (xs ys : List ℕ) → largest (map f (xs ++ ys)) ≡ max (largest (map f xs)) (largest (map f ys))
largest_map_append f xs ys = rw map-append (largest_append (map f xs) (map f ys))

-- ---- edges by stage: what f has of the node from which such an edge leads to stage g of instruction i, 0 where there is none
abbrev along : (ℕ → ℕ) → Edges → ℕ → ℕ → ℕ
along f e g i = pick (eqb e.to g && leb e.far i) (f (node e.from (i - e.far))) 0

-- the largest of them
abbrev along_all : (ℕ → ℕ) → List Edges → ℕ → ℕ → ℕ
along_all f [] g i = 0
along_all f (e ∷ es) g i = max (along f e g i) (along_all f es g i)

largest_into : (f : ℕ → ℕ) (es : List Edges) (g i : ℕ) → g < 5 → largest (map f (into es (node g i))) ≡ along_all f es g i
unfolding into largest
largest_into f [] g i h = refl
largest_into f (e ∷ es) g i h =
    rw (stage_node g i h, instruction_node g i h)
    (by_test (eqb e.to g && leb e.far i)
    (λ t. rw t (ap (max (f (node e.from (i - e.far)))) (largest_into f es g i h)))
    (λ t. rw t (largest_into f es g i h ∙ sym (zero-max _))))

-- ---- ready times
module _ (b : Block) (lat : ℕ → ℕ) (fetches : (i : ℕ) → lat (node IF i) ≡ fetch)
    (one : (g i : ℕ) → g < 5 → (g ≡ EX → ⊥) → (g ≡ IF → ⊥) → lat (node g i) ≡ 1) where
  -- the finish of the last writer of a register
  writer_finish : (s : List ℕ) (r j : ℕ) → largest (map (finish lat s) (map (node WB) (last_writer b r j))) ≡ finish_source s (code (last_writer b r j))
  unfolding last_writer finish_source code largest finish
  writer_finish s r zero = refl
  writer_finish s r (suc j) =
      by_test (eqb (entry b j).writes r)
      (λ t. rw t (rw (max-zero, one WB j (omega arith) (λ e. omega arith) (λ e. omega arith), lt-ltb 0 (j + 1) (omega arith), add_sub j) refl))
      (λ t. rw t (writer_finish s r j))

  source_finish : (s : List ℕ) (r j : ℕ) → largest (map (finish lat s) (map (node WB) (source b r j))) ≡ finish_source s (code (source b r j))
  unfolding source finish_source code largest
  source_finish s r j = by_test (eqb r 255) (λ t. rw t refl) (λ t. rw t (writer_finish s r j))

  -- the finish of the later of the two sources of i
  abbrev sources_finish : List ℕ → ℕ → ℕ
  sources_finish s i = max (finish_source s (code (source b (entry b i).reads1 i))) (finish_source s (code (source b (entry b i).reads2 i)))

  -- the ready time by all edges to a stage
  ready_stage : (s : List ℕ) (g i : ℕ) → g < 5
      → ready b lat s (node g i)
      ≡ max (max (along_all (finish lat s) (finish_edges b) g i) (pick (eqb g EX) (sources_finish s i) 0)) (along_all (start s) (order_edges b) g i)
  unfolding ready finish_into order_into sources largest
  ready_stage s g i h =
      rw (stage_node g i h, instruction_node g i h, largest_map_append)
      (rw (largest_into (finish lat s) (finish_edges b) g i h, largest_into (start s) (order_edges b) g i h)
      (by_test (eqb g EX)
      (λ t. rw (t, map-append, largest_map_append, source_finish s (entry b i).reads1 i, source_finish s (entry b i).reads2 i) refl)
      (λ t. rw t refl)))

  pub ready_if_lem : (s : List ℕ) (i : ℕ) → ready b lat s (node IF i) ≡ ready_if b.q b.f s i
  unfolding ready_if finish_back start_back finish_edges order_edges finish
  ready_if_lem s i =
      ready_stage s IF i (omega arith)
      ∙ simp (zero-max, max-zero, one ID (i - b.q) (omega arith) (λ e. omega arith) (λ e. omega arith), fetches (i - b.f))

  pub ready_id_lem : (s : List ℕ) (i : ℕ) → ready b lat s (node ID i) ≡ ready_id b.w b.d s i
  unfolding ready_id finish_back start_back finish_edges order_edges finish
  ready_id_lem s i =
      ready_stage s ID i (omega arith)
      ∙ simp (
        leb-zero,
        sub-zero,
        zero-max,
        max-zero,
        fetches i,
        one CM (i - b.w) (omega arith) (λ e. omega arith) (λ e. omega arith),
        one ID (i - b.d) (omega arith) (λ e. omega arith) (λ e. omega arith),
      )

  pub ready_ex_lem : (s : List ℕ) (i : ℕ) → ready b lat s (node EX i) ≡ ready_ex (code (source b (entry b i).reads1 i)) (code (source b (entry b i).reads2 i)) s i
  unfolding ready_ex finish_edges order_edges finish
  ready_ex_lem s i =
      ready_stage s EX i (omega arith)
      ∙ simp (leb-zero, sub-zero, zero-max, max-zero, one ID i (omega arith) (λ e. omega arith) (λ e. omega arith))

  pub ready_wb_lem : (s : List ℕ) (i : ℕ) → ready b lat s (node WB i) ≡ ready_wb (lat (node EX i)) s i
  unfolding ready_wb finish_edges order_edges finish
  ready_wb_lem s i = ready_stage s WB i (omega arith) ∙ simp (leb-zero, sub-zero, zero-max, max-zero)

  pub ready_cm_lem : (s : List ℕ) (i : ℕ) → ready b lat s (node CM i) ≡ ready_cm b.c s i
  unfolding ready_cm finish_back start_back finish_edges order_edges finish
  ready_cm_lem s i =
      ready_stage s CM i (omega arith)
      ∙ simp (
        leb-zero,
        sub-zero,
        zero-max,
        max-zero,
        one WB i (omega arith) (λ e. omega arith) (λ e. omega arith),
        one CM (i - b.c) (omega arith) (λ e. omega arith) (λ e. omega arith),
      )
