-- One turn, for earliest and for latest times: what the code stores for instruction i keeps the times filled. Assumes nothing.
use Prim.Native.Nat.{ℕ, ◌*◌, ◌+◌, ◌<◌, ◌≤◌}
use mathlib.Core.Path.{◌∙◌, ◌≡◌, sym}
use mathlib.Core.List.{List, map}
use native.Mathlib.Omega.{arith}
use lib.ListN.{length}
use Rattle.lists.specs.Lists.{numbers_where}
use Rattle.lists.specs.Sums.{largest}
use Rattle.lists.proofs.BufferFill.{Filled}
use Rattle.record.specs.declared.Block.{Block}
use Rattle.record.proofs.AcceptedRanges.{Ranges, ranges}
use Rattle.model.specs.Cycles.{ready}
use Rattle.model.specs.Nodes.{EX, entry, lowest, node, nodes}
use Rattle.model.specs.Paths.{Pairs}
use Rattle.model.specs.Rounds.{latest_start, rival}
use Rattle.model.proofs.Latencies.{lowest_if, lowest_else}
use Rattle.unpacked.specs.declared.Instruction.{Instruction}
use Rattle.unpacked.specs.declared.Shape.{Shape}
use Rattle.unpacked.specs.inside.ReadyByStage.{ready_ex}
use Rattle.unpacked.specs.inside.UnpackedBlock.{Unpacked, first_of, high_of, low_of, second_of}
use Rattle.unpacked.proofs.ReadyTimes.{ready_ex_lem}
use Rattle.pairs.specs.inside.PairRows.{Even}
use Rattle.rounds.specs.inside.FiveStarts.{committed, fetched, latest_of}
use Rattle.rounds.proofs.StageTimes.{earliest_stepped, latest_at_ex, latest_short, round_stepped}
use Rattle.rounds.proofs.TimesFilled.{Stepped, row_filled}

module _ (b : Block) (h : Shape) (u : List Instruction) (U : Unpacked b h u) (s₀ : List ℕ) (long : length s₀ ≡ 300) (i : ℕ) (few : i < h.n) where
  A : Ranges b
  A = ranges b U.accepted

  i_below_n : i < b.n
  i_below_n = omega (arith, U.shape.n)

  room : nodes b ≤ length s₀
  room = omega (arith, A.n.1)

  -- any times: their latencies are l's, and x is what its rule makes of EX(i)
  turn : (lat : ℕ → ℕ) (rule : List ℕ → ℕ → ℕ) → Stepped b lat rule → (s s₁ s₂ : List ℕ) (x y : ℕ)
      → Filled rule s₀ (5 * i) s → s₁ ≡ fetched h.q h.f h.w h.d s i → x ≡ rule s₁ (node EX i) → y ≡ lat i → s₂ ≡ committed h.c y x s₁ i
      → Filled rule s₀ (5 * (i + 1)) s₂
  turn lat rule S s s₁ s₂ x y e a q m c =
      let a' : s₁ ≡ fetched b.q b.f b.w b.d s i = rw (← U.shape.q, ← U.shape.f, ← U.shape.w, ← U.shape.d) a in
      let q' : x ≡ rule (fetched b.q b.f b.w b.d s i) (node EX i) = rw (← a') q in
      let c' : s₂ ≡ committed b.c (lat i) x (fetched b.q b.f b.w b.d s i) i = rw (← a', ← m, ← U.shape.c) c in
      rw c' (row_filled b lat rule S s₀ room i s x i_below_n e q')

  sources_ready : (s : List ℕ) → ready_ex (first_of u i) (second_of u i) s i ≡ ready b (lowest b) s (node EX i)
  sources_ready s = rw (U.instructions.first i i_below_n, U.instructions.second i i_below_n) (sym (ready_ex_lem b (lowest b) (lowest_if b) (lowest_else b) s i))

  pub earliest_turn : (s s₁ s₂ : List ℕ) (x y : ℕ)
      → Filled (ready b (lowest b)) s₀ (5 * i) s → s₁ ≡ fetched h.q h.f h.w h.d s i → x ≡ ready_ex (first_of u i) (second_of u i) s₁ i
      → y ≡ low_of u i → s₂ ≡ committed h.c y x s₁ i → Filled (ready b (lowest b)) s₀ (5 * (i + 1)) s₂
  earliest_turn s s₁ s₂ x y e a q m c =
      turn (λ j. (entry b j).lo) (ready b (lowest b)) (earliest_stepped b A U.shape.most) s s₁ s₂ x y e a (q ∙ sources_ready s₁)
      (m ∙ U.instructions.low i i_below_n) c

  pub round_turn : (con known : Pairs) → Even b.n (rival con known)
      → (row : List ℕ) (most : ℕ) → row ≡ numbers_where 0 i (rival con known i)
      → most ≡ largest (map (high_of u) (numbers_where (i + 1) b.n (λ j. rival con known j i)))
      → (s s₁ s₂ : List ℕ) (r x y : ℕ)
      → Filled (latest_start b (rival con known)) s₀ (5 * i) s → s₁ ≡ fetched h.q h.f h.w h.d s i → r ≡ ready_ex (first_of u i) (second_of u i) s₁ i
      → x ≡ latest_of u s₁ row most r → y ≡ high_of u i → s₂ ≡ committed h.c y x s₁ i → Filled (latest_start b (rival con known)) s₀ (5 * (i + 1)) s₂
  round_turn con known even row most these later s s₁ s₂ r x y e a q z m c =
      let at : x ≡ latest_start b (rival con known) s₁ (node EX i)
      = z ∙ latest_short b A (rival con known) even u s₁ row most i r i_below_n U.instructions.high these later
      ∙ rw (q, U.instructions.first i i_below_n, U.instructions.second i i_below_n) (sym (latest_at_ex b A U.shape.most con known s₁ i)) in
      turn (λ j. (entry b j).hi) (latest_start b (rival con known)) (round_stepped b A U.shape.most con known) s s₁ s₂ x y e a at
      (m ∙ U.instructions.high i i_below_n) c
