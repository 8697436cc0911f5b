-- The stage and the instruction of a node, and the latencies of nodes: that of an IF is the fetch's, that of an EX its
-- instruction's, all others are 1; and where one number is at most another, so are the latencies that they give a node. Assumes
-- nothing.
use Prim.Native.Nat.{ℕ, ◌+◌, ◌*◌, ◌/◌, ◌%◌, ◌≤◌, ◌<◌}
use mathlib.Core.Path.{◌≡◌, refl, ◌∙◌}
use mathlib.Core.List.{List}
use native.Mathlib.Omega.{arith}
use lib.ListN.{get_or}
use borrow.Author.Tests.{ne_eqb}
use Rattle.lists.specs.Lists.{pick}
use Rattle.lists.proofs.Bools.{by_test}
use Rattle.record.specs.declared.Block.{Block}
use Rattle.record.proofs.AcceptedRanges.{Ranges}
use Rattle.model.specs.Nodes.{IF, EX, node, nodes, instruction, is_if, is_ex, entry, fetch, latency, lowest, highest, chosen}

-- ---- the stage and the instruction of a node
pub stage_node : (g i : ℕ) → g < 5 → (5 * i + g) % 5 ≡ g
stage_node g i h = omega arith

pub instruction_node : (g i : ℕ) → g < 5 → (5 * i + g) / 5 ≡ i
instruction_node g i h = omega arith

-- ---- the latencies of a block
latency_if : (f x i : ℕ) → latency f x (node IF i) ≡ f
unfolding latency
latency_if f x i = rw (stage_node IF i (omega arith)) refl

latency_ex : (f x i : ℕ) → latency f x (node EX i) ≡ x
unfolding latency
latency_ex f x i = rw (stage_node EX i (omega arith)) refl

latency_else : (f x g i : ℕ) → g < 5 → (g ≡ EX → ⊥) → (g ≡ IF → ⊥) → latency f x (node g i) ≡ 1
unfolding latency
latency_else f x g i h ex if = rw (stage_node g i h, ne_eqb g EX ex, ne_eqb g IF if) refl

-- where the fetch takes 1, every stage but EX does
pub latency_fetch : (x v : ℕ) → latency fetch x v ≡ pick (is_ex v) x 1
unfolding latency
latency_fetch x v = by_test (is_if v) (λ t. rw t refl) (λ f. rw f refl)

latency_one : (x g i : ℕ) → g < 5 → (g ≡ EX → ⊥) → latency fetch x (node g i) ≡ 1
latency_one x g i h ex = latency_fetch x (node g i) ∙ rw (stage_node g i h, ne_eqb g EX ex) refl

module _ (b : Block) where
  -- the lowest: of a fetch, of an EX, of ID, WB and CM, and off EX in all
  pub lowest_if : (i : ℕ) → lowest b (node IF i) ≡ fetch
  unfolding lowest
  lowest_if i = latency_if fetch (entry b (instruction (node IF i))).lo i

  pub lowest_ex : (i : ℕ) → lowest b (node EX i) ≡ (entry b i).lo
  unfolding lowest
  lowest_ex i = rw (instruction_node EX i (omega arith)) (latency_ex fetch (entry b i).lo i)

  pub lowest_else : (g i : ℕ) → g < 5 → (g ≡ EX → ⊥) → (g ≡ IF → ⊥) → lowest b (node g i) ≡ 1
  unfolding lowest
  lowest_else g i = latency_else fetch (entry b (instruction (node g i))).lo g i

  pub lowest_one : (g i : ℕ) → g < 5 → (g ≡ EX → ⊥) → lowest b (node g i) ≡ 1
  unfolding lowest
  lowest_one g i = latency_one (entry b (instruction (node g i))).lo g i

  -- the highest
  pub highest_if : (i : ℕ) → highest b (node IF i) ≡ fetch
  unfolding highest
  highest_if i = latency_if fetch (entry b (instruction (node IF i))).hi i

  pub highest_ex : (i : ℕ) → highest b (node EX i) ≡ (entry b i).hi
  unfolding highest
  highest_ex i = rw (instruction_node EX i (omega arith)) (latency_ex fetch (entry b i).hi i)

  pub highest_else : (g i : ℕ) → g < 5 → (g ≡ EX → ⊥) → (g ≡ IF → ⊥) → highest b (node g i) ≡ 1
  unfolding highest
  highest_else g i = latency_else fetch (entry b (instruction (node g i))).hi g i

  pub highest_one : (g i : ℕ) → g < 5 → (g ≡ EX → ⊥) → highest b (node g i) ≡ 1
  unfolding highest
  highest_one g i = latency_one (entry b (instruction (node g i))).hi g i

  -- those that a list chooses
  pub chosen_if : (l : List ℕ) (i : ℕ) → chosen b l (node IF i) ≡ fetch
  unfolding chosen
  chosen_if l i = latency_if fetch (get_or l (instruction (node IF i)) 0) i

  pub chosen_ex : (l : List ℕ) (i : ℕ) → chosen b l (node EX i) ≡ get_or l i 0
  unfolding chosen
  chosen_ex l i = rw (instruction_node EX i (omega arith)) (latency_ex fetch (get_or l i 0) i)

  pub chosen_else : (l : List ℕ) (g i : ℕ) → g < 5 → (g ≡ EX → ⊥) → (g ≡ IF → ⊥) → chosen b l (node g i) ≡ 1
  unfolding chosen
  chosen_else l g i = latency_else fetch (get_or l (instruction (node g i)) 0) g i

  pub chosen_one : (l : List ℕ) (g i : ℕ) → g < 5 → (g ≡ EX → ⊥) → chosen b l (node g i) ≡ 1
  unfolding chosen
  chosen_one l g i = latency_one (get_or l (instruction (node g i)) 0) g i

-- ---- larger and smaller ones
pub latency_mono : (f x y v : ℕ) → x ≤ y → latency f x v ≤ latency f y v
unfolding latency
latency_mono f x y v h = by_test (is_ex v) (λ t. rw t h) (λ t. rw t (omega arith))

pub latency_some : (f x v : ℕ) → 1 ≤ f → 1 ≤ x → 1 ≤ latency f x v
unfolding latency
latency_some f x v g h = by_test (is_ex v) (λ t. rw t h) (λ t. rw t (by_test (is_if v) (λ u. rw u g) (λ u. rw u (omega arith))))

module _ (b : Block) (A : Ranges b) where
  -- no latency is 0
  pub lowest_some : (v : ℕ) → v < nodes b → 1 ≤ lowest b v
  unfolding lowest
  lowest_some v l = latency_some fetch _ v (omega arith) (A.instruction (instruction v) (omega arith)).lo

  -- the lowest is not above the highest
  pub lowest_highest : (v : ℕ) → v < nodes b → lowest b v ≤ highest b v
  unfolding lowest highest
  lowest_highest v l = latency_mono fetch _ _ v (A.instruction (instruction v) (omega arith)).hi
