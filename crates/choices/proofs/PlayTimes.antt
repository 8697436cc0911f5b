-- The times of a play by recurrence: off EX each node starts when it is ready, and the ready time is that of its stage.
-- Assumes nothing.
use Prim.Native.Nat.{ℕ, zero, suc, ◌+◌, ◌-◌, ◌≤◌, ◌<◌}
use mathlib.Core.Path.{◌≡◌, refl, ap, ◌∙◌}
use mathlib.Core.List.{List}
use native.Mathlib.Omega.{arith}
use lib.ListN.{get_or}
use borrow.Author.Tests.{ne_eqb, le-leb, lt-ltb}
use Rattle.record.specs.declared.Block.{Block}
use Rattle.model.specs.Nodes.{IF, ID, EX, WB, CM, node, entry, fetch, source, chosen}
use Rattle.model.specs.Cycles.{most_cycles, start, finish, ready}
use Rattle.schedules.proofs.PlayExecutions.{play_most, starts_ready}
use Rattle.unpacked.specs.inside.ReadyByStage.{finish_back, start_back, finish_source, ready_if, ready_id, ready_ex, ready_wb, ready_cm}
use Rattle.unpacked.specs.inside.UnpackedBlock.{code}
use Rattle.model.proofs.Latencies.{stage_node, chosen_if, chosen_one, chosen_else, chosen_ex}
use Rattle.unpacked.proofs.ReadyTimes.{ready_if_lem, ready_id_lem, ready_ex_lem, ready_wb_lem, ready_cm_lem}
use Rattle.choices.specs.inside.InstructionRows.{Playing}
use Rattle.choices.specs.declared.Row.{Row}
use Rattle.choices.specs.inside.PlayNotes.{starts, ends}

module _ (b : Block) (l : List ℕ) (rows : List Row) (P : Playing b l rows) where
  abbrev s : List ℕ
  s = starts b l

  -- off EX, by stage
  pub off_ex : (g i : ℕ) → i < b.n → g < 5 → (g ≡ EX → ⊥) → start s (node g i) ≡ ready b (chosen b l) s (node g i)
  off_ex g i h k ne =
      starts_ready b P.accepted P.cap l P.fit (node g i) (omega arith) (rw (stage_node g i k) (ne_eqb g EX ne))

  pub fetch_start : (i : ℕ) → i < b.n → start s (node IF i) ≡ ready_if b.q b.f s i
  fetch_start i h = off_ex IF i h (omega arith) (λ e. omega arith) ∙ ready_if_lem b (chosen b l) (chosen_if b l) (chosen_else b l) s i

  pub decode_start : (i : ℕ) → i < b.n → start s (node ID i) ≡ ready_id b.w b.d s i
  decode_start i h = off_ex ID i h (omega arith) (λ e. omega arith) ∙ ready_id_lem b (chosen b l) (chosen_if b l) (chosen_else b l) s i

  write_start : (i : ℕ) → i < b.n → start s (node WB i) ≡ start s (node EX i) + get_or l i 0
  unfolding ready_wb
  write_start i h =
      off_ex WB i h (omega arith) (λ e. omega arith)
      ∙ ready_wb_lem b (chosen b l) (chosen_if b l) (chosen_else b l) s i ∙ ap (λ (y : ℕ). start s (node EX i) + y) (chosen_ex b l i)

  pub commit_start : (i : ℕ) → i < b.n → start s (node CM i) ≡ ready_cm b.c s i
  commit_start i h = off_ex CM i h (omega arith) (λ e. omega arith) ∙ ready_cm_lem b (chosen b l) (chosen_if b l) (chosen_else b l) s i

  pub execute_ready : (i : ℕ)
      → ready b (chosen b l) s (node EX i) ≡ ready_ex (code (source b (entry b i).reads1 i)) (code (source b (entry b i).reads2 i)) s i
  execute_ready i = ready_ex_lem b (chosen b l) (chosen_if b l) (chosen_else b l) s i

  -- off EX a node takes one cycle
  pub ends_one : (g i : ℕ) → g < 5 → (g ≡ EX → ⊥) → ends b l (node g i) ≡ start s (node g i) + 1
  unfolding finish
  ends_one g i k ne = ap (λ (y : ℕ). start s (node g i) + y) (chosen_one b l g i k ne)

  pub ends_fetch : (i : ℕ) → ends b l (node IF i) ≡ start s (node IF i) + fetch
  unfolding finish
  ends_fetch i = ap (λ (y : ℕ). start s (node IF i) + y) (chosen_if b l i)

  pub ends_ex : (i : ℕ) → ends b l (node EX i) ≡ start s (node EX i) + get_or l i 0
  unfolding finish
  ends_ex i = ap (λ (y : ℕ). start s (node EX i) + y) (chosen_ex b l i)

  pub ends_most : (g i : ℕ) → g < 5 → i < b.n → ends b l (node g i) ≤ most_cycles
  ends_most g i k h = play_most b P.accepted P.cap l P.fit (node g i) (omega arith)

  -- a WB starts when its EX has finished, and so finishes one cycle later
  pub write_end : (i : ℕ) → i < b.n → ends b l (node WB i) ≡ start s (node EX i) + get_or l i 0 + 1
  write_end i h = omega (arith, ends_one WB i (omega arith) (λ e. omega arith), write_start i h)

  -- ---- IDs and CMs start in order
  start_back_lem : (g i : ℕ) → start_back s g (i + 1) ≡ start s (node g i)
  unfolding start_back
  start_back_lem g i = let q : i + 1 - 1 ≡ i = omega arith in rw (le-leb 1 (i + 1) (omega arith), q) refl

  decode_next : (i : ℕ) → i + 1 < b.n → start s (node ID i) ≤ start s (node ID (i + 1))
  unfolding ready_id
  decode_next i h = omega (arith, decode_start (i + 1) h, start_back_lem ID i)

  commit_next : (i : ℕ) → i + 1 < b.n → start s (node CM i) ≤ start s (node CM (i + 1))
  unfolding ready_cm
  commit_next i h = omega (arith, commit_start (i + 1) h, start_back_lem CM i)

  in_order : (g : ℕ) → ((i : ℕ) → i + 1 < b.n → start s (node g i) ≤ start s (node g (i + 1)))
      → (i k : ℕ) → i + k < b.n → start s (node g i) ≤ start s (node g (i + k))
  in_order g next i zero h = let q : i + zero ≡ i = omega arith in rw q (omega arith)
  in_order g next i (suc k) h =
      let q : i + suc k ≡ i + k + 1 = omega arith in
      rw q (omega (arith, in_order g next i k (omega arith), next (i + k) (omega arith)))

  pub decode_order : (i k : ℕ) → i + k < b.n → start s (node ID i) ≤ start s (node ID (i + k))
  decode_order = in_order ID decode_next

  -- ---- what starts after what
  -- a source that j's EX waits for
  pub source_sooner : (i j y : ℕ) → i < b.n → y ≡ i + 1 → finish_source s y ≤ start s (node EX j) → start s (node EX i) < start s (node EX j)
  unfolding finish_source
  source_sooner i j y h e f =
      let q : i + 1 - 1 ≡ i = omega arith in
      let g : start s (node WB i) + 1 ≤ start s (node EX j) = rw (e, lt-ltb 0 (i + 1) (omega arith), q) at f in
      omega (arith, write_start i h)

  -- ---- one that cannot be decoded before c has committed
  commit_later : (i : ℕ) → i < b.n → start s (node EX i) < start s (node CM i)
  unfolding ready_cm
  commit_later i h = omega (arith, commit_start i h, write_start i h)

  decode_later : (j : ℕ) → j < b.n → finish_back s CM 1 b.w j ≤ start s (node ID j)
  unfolding ready_id
  decode_later j h = omega (arith, decode_start j h)

  execute_later : (j : ℕ) → start s (node ID j) < ready b (chosen b l) s (node EX j)
  unfolding ready_ex
  execute_later j = omega (arith, execute_ready j)

  pub window_sooner : (c j : ℕ) → j < b.n → c + b.w ≤ j → ready b (chosen b l) s (node EX j) ≤ start s (node EX j)
      → start s (node EX c) < start s (node EX j)
  unfolding finish_back
  window_sooner c j h k r =
      let w : start s (node CM (j - b.w)) + 1 ≤ start s (node ID j) = rw (le-leb b.w j (omega arith)) at (decode_later j h) in
      let q : c + (j - b.w - c) ≡ j - b.w = omega arith in
      let o : start s (node CM c) ≤ start s (node CM (j - b.w)) = rw q at (in_order CM commit_next c (j - b.w - c) (omega arith)) in
      omega (arith, execute_later j, commit_later c (omega arith), w, o, r)
