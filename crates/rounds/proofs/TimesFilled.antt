-- Times filled in instruction by instruction: five starts a turn, each what its rule makes of those before. Assumes nothing.
use Prim.Native.Nat.{ℕ, ◌%◌, ◌*◌, ◌+◌, ◌<◌, ◌≤◌}
use mathlib.Core.Path.{◌∙◌, ◌≡◌, ap, subst, sym}
use mathlib.Core.List.{List}
use native.Mathlib.Omega.{arith}
use lib.ListN.{length, length-set}
use lib.Seq.{get_or-set_same}
use Rattle.lists.specs.Lists.{in_order}
use Rattle.lists.proofs.BufferFill.{Filled, Looks, filled_length, filled_more, filled_rule}
use Rattle.record.specs.declared.Block.{Block}
use Rattle.model.specs.Cycles.{most_cycles, start}
use Rattle.model.specs.Nodes.{CM, EX, ID, IF, WB, node, nodes}
use Rattle.unpacked.specs.inside.ReadyByStage.{ready_cm, ready_id, ready_if, ready_wb}
use Rattle.rounds.specs.inside.FiveStarts.{committed, fetched, starts}

-- what a rule of times makes of the stages, l having the latencies of EX; no start needs more than 16 bits
pub record Stepped (b : Block) (l : ℕ → ℕ) (rule : List ℕ → ℕ → ℕ) : Type 0 where
  pub looks : Looks 0 rule
  pub at_if : (s : List ℕ) (i : ℕ) → rule s (node IF i) ≡ ready_if b.q b.f s i
  pub at_id : (s : List ℕ) (i : ℕ) → rule s (node ID i) ≡ ready_id b.w b.d s i
  pub at_wb : (s : List ℕ) (i : ℕ) → rule s (node WB i) ≡ ready_wb (l i) s i
  pub at_cm : (s : List ℕ) (i : ℕ) → rule s (node CM i) ≡ ready_cm b.c s i
  pub limit : (v : ℕ) → v < nodes b → rule (in_order rule v) v ≤ most_cycles

module _ (b : Block) (l : ℕ → ℕ) (rule : List ℕ → ℕ → ℕ) (S : Stepped b l rule) (s₀ : List ℕ) (room : nodes b ≤ length s₀) where
  -- one start more
  next : (v w : ℕ) (s : List ℕ) (x : ℕ) → w ≡ v + 1 → v < nodes b → Filled rule s₀ v s → x ≡ rule s v → Filled rule s₀ w (starts s v x)
  next v w s x n h e q =
      let m : x % 65536 ≡ rule s v = omega (arith, q, filled_rule rule s₀ 0 S.looks v s e, S.limit v h) in
      filled_more rule s₀ 0 S.looks v w s (x % 65536) n (omega arith) e m

  fetched_filled : (i : ℕ) (s : List ℕ) → i < b.n → Filled rule s₀ (5 * i) s → Filled rule s₀ (node EX i) (fetched b.q b.f b.w b.d s i)
  unfolding fetched
  fetched_filled i s h e =
      let z : 5 * i ≡ node IF i = omega arith in
      let e' : Filled rule s₀ (node IF i) s = subst (λ (v : ℕ). Filled rule s₀ v s) z e in
      let a = next (node IF i) (node ID i) s _ (omega arith) (omega arith) e' (sym (S.at_if s i)) in
      next (node ID i) (node EX i) _ _ (omega arith) (omega arith) a (sym (S.at_id _ i))

  committed_filled : (i : ℕ) (s : List ℕ) (x : ℕ) → i < b.n → Filled rule s₀ (node EX i) s → x ≡ rule s (node EX i)
      → Filled rule s₀ (5 * (i + 1)) (committed b.c (l i) x s i)
  unfolding committed ready_wb
  committed_filled i s x h e q =
      let a = next (node EX i) (node WB i) s x (omega arith) (omega arith) e q in
      let small : x ≤ most_cycles = omega (arith, q, filled_rule rule s₀ 0 S.looks (node EX i) s e, S.limit (node EX i) (omega arith)) in
      let long : node EX i < length s = omega (arith, filled_length rule s₀ (node EX i) s (omega arith) e) in
      let at : start (starts s (node EX i) x) (node EX i) ≡ x = get_or-set_same s (node EX i) (x % 65536) 0 long ∙ omega arith in
      let c = next (node WB i) (node CM i) (starts s (node EX i) x) (x + l i) (omega arith) (omega arith) a (sym (S.at_wb _ i ∙ ap (λ (y : ℕ). y + l i) at)) in
      next (node CM i) (5 * (i + 1)) _ _ (omega arith) (omega arith) c (sym (S.at_cm _ i))

  -- one instruction more
  pub row_filled : (i : ℕ) (s : List ℕ) (x : ℕ) → i < b.n → Filled rule s₀ (5 * i) s → x ≡ rule (fetched b.q b.f b.w b.d s i) (node EX i)
      → Filled rule s₀ (5 * (i + 1)) (committed b.c (l i) x (fetched b.q b.f b.w b.d s i) i)
  row_filled i s x h e q = committed_filled i _ x h (fetched_filled i s h e) q

-- ---- lengths
pub fetched_length : (q f w d : ℕ) (s : List ℕ) (i : ℕ) → length (fetched q f w d s i) ≡ length s
unfolding fetched
fetched_length q f w d s i = simp length-set

pub committed_length : (c l x : ℕ) (s : List ℕ) (i : ℕ) → length (committed c l x s i) ≡ length s
unfolding committed
committed_length c l x s i = simp length-set
