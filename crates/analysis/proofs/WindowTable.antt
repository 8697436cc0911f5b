-- The window table, from lists that have the model's numbers where the block has nodes: six numbers a node, each of 16 bits.
-- Assumes nothing.
use Prim.Native.Nat.{ℕ, ◌%◌, ◌*◌, ◌+◌, ◌<◌, ◌≤◌}
use mathlib.Core.Path.{◌∙◌, ◌≡◌, ap, refl, sym}
use mathlib.Core.Bool.{false}
use mathlib.Core.List.{◌++◌, ◌∷◌, List, []}
use native.Mathlib.Omega.{arith}
use native.Mathlib.Nat.{zero-add}
use lib.ListN.{drop, length}
use borrow.Author.Tests.{eqb-true}
use Rattle.lists.specs.Lists.{joined}
use Rattle.lists.proofs.Bools.{by_test}
use Rattle.lists.proofs.JoinedPieces.{joined_ext, length_joined, pieces_more, pieces_none, pieces_in, put_two}
use Rattle.record.specs.declared.Block.{Block}
use Rattle.record.proofs.AcceptedRanges.{Ranges, ranges}
use Rattle.model.specs.Cycles.{cycles_each, finish, ready, start, three_times}
use Rattle.model.specs.Nodes.{EX, entry, fetch, highest, instruction, is_ex, latency, lowest, node, nodes, stage}
use Rattle.model.specs.Paths.{contending}
use Rattle.model.specs.Rounds.{R, earliest, latest_start, round, window_numbers, window_place, window_table, windows}
use Rattle.model.proofs.Latencies.{highest_if, highest_else}
use Rattle.model.proofs.Limits.{earliest_limit, ready_limit_lem, round_limit}
use Rattle.model.proofs.RoundsEnd.{windows_settled}
use Rattle.model.proofs.TimesInOrder.{earliest_is, ready_looks, round_is}
use Rattle.unpacked.specs.declared.Instruction.{Instruction}
use Rattle.unpacked.specs.declared.unpacked_block.UnpackedBlock.{UnpackedBlock}
use Rattle.unpacked.specs.inside.UnpackedBlock.{Unpacked, high_of, low_of}
use Rattle.unpacked.proofs.ReadyTimes.{ready_ex_lem}
use Rattle.rounds.specs.inside.BlockTimes.{TimesOf}
use Rattle.analysis.specs.inside.OutputSteps.{early_three, late_three, node_into, ready_at, table_from}

-- its six numbers
abbrev pub six_of : List Instruction → List ℕ → List ℕ → ℕ → List ℕ
six_of u early late v = early_three u early v ++ late_three u late v

-- ---- the table filled node by node, and the rest of o
abbrev pub table_in : List Instruction → List ℕ → List ℕ → List ℕ → ℕ → List ℕ
table_in u early late o v = pieces_in 6 0 (six_of u early late) o v

module _ (u : List Instruction) (early late o : List ℕ) where
  pub table_none : o ≡ table_in u early late o 0
  table_none = pieces_none 6 0 _ o

  pub table_more : (v : ℕ) → node_into v u early late (table_in u early late o v) ≡ table_in u early late o (v + 1)
  unfolding node_into
  table_more v =
      let n : length (joined v (six_of u early late)) ≡ 0 + 6 * v = omega (arith, length_joined 6 (six_of u early late) (λ w. refl) v) in
      let a : window_place v 0 ≡ 0 + 6 * v = omega arith in
      let d : window_place v 3 ≡ 0 + 6 * v + 3 = omega arith in
      rw (a, d)
      (put_two (joined v (six_of u early late)) (early_three u early v) (late_three u late v) o (0 + 6 * v) n
      ∙ pieces_more 6 0 (six_of u early late) o (λ w. refl) v (0 + 6 * v) refl (omega arith))

-- all nodes of n instructions
pub table_all : (block : UnpackedBlock) (early late o : List ℕ) (v : ℕ) → v ≡ 5 * block.shape.n
    → table_in block.instructions early late o v ≡ table_from block early late o
unfolding table_from
table_all block early late o v e =
    let d : 6 * (5 * block.shape.n) ≡ 30 * block.shape.n = omega arith in
    rw (e, zero-add, d) refl

-- ---- what the lists make is the block's
module _
    (b : Block) (block : UnpackedBlock) (early late : List ℕ) (U : Unpacked b block.shape block.instructions)
    (es : TimesOf b (earliest b) early) (ls : TimesOf b (windows b).late late) where
  abbrev u : List Instruction
  u = block.instructions

  A : Ranges b
  A = ranges b U.accepted

  cap : (i : ℕ) → (entry b i).hi ≤ 255
  cap = U.shape.most

  few : (v : ℕ) → v < nodes b → cycles_each * (instruction v + 1) < 65536
  few v l = omega (arith, A.n.1)

  -- the windows are those of the last round
  last : (windows b).late ≡ round b (contending b) (windows b).known
  last = (windows_settled b).late

  earliest_finish : (v : ℕ) → v < nodes b → (start early v + latency fetch (low_of u (instruction v)) v) % 65536 ≡ finish (lowest b) (earliest b) v
  unfolding finish lowest
  earliest_finish v l =
      let m = earliest_limit b A cap v l in
      rw (es.at v l, U.instructions.low (instruction v) (omega arith)) (omega (arith, m, few v l))

  latest_finish : (v : ℕ) → v < nodes b → (start late v + latency fetch (high_of u (instruction v)) v) % 65536 ≡ finish (highest b) (windows b).late v
  unfolding finish highest
  latest_finish v l =
      let m = round_limit b A cap (contending b) (windows b).known v l in
      rw (ls.at v l, U.instructions.high (instruction v) (omega arith), last) (omega (arith, m, few v l))

  -- off EX the latest start is the latest ready time
  ready_off : (v : ℕ) → v < nodes b → is_ex v ≡ false → start (windows b).late v ≡ ready b (highest b) (windows b).late v
  unfolding latest_start R
  ready_off v l t = rw last (round_is b A (contending b) (windows b).known v l ∙ rw t refl)

  ready_at_lem : (v : ℕ) → v < nodes b → ready_at u late v ≡ ready b (highest b) (windows b).late v
  ready_at_lem v l =
      let i = instruction v in
      let i_below_n : i < b.n = omega arith in
      by_test (is_ex v)
      (λ t.
      let ex : stage v ≡ EX = eqb-true (stage v) EX t in
      let e : node EX i ≡ v = omega arith in
      rw (t, U.instructions.first i i_below_n, U.instructions.second i i_below_n)
      (sym (ready_ex_lem b (highest b) (highest_if b) (highest_else b) late i)
      ∙ rw e (ready_looks b A (highest b) late (windows b).late v (λ w o. ls.at w (omega arith)))))
      (λ t.
      let e : node (stage v) i ≡ v = omega arith in
      rw (t, e) (ls.at v l ∙ ready_off v l t))

  latest_ready : (v : ℕ) → v < nodes b → ready_at u late v % 65536 ≡ ready b (highest b) (windows b).late v
  unfolding R
  latest_ready v l =
      let m = ready_limit_lem b A cap (contending b) (windows b).known v l in
      rw (ready_at_lem v l, last) (omega (arith, m, few v l))

  pub six_is : (v : ℕ) → v < nodes b → six_of u early late v ≡ three_times b (lowest b) (earliest b) v ++ three_times b (highest b) (windows b).late v
  unfolding three_times
  six_is v l =
      rw (earliest_finish v l, latest_ready v l, latest_finish v l, es.at v l, ls.at v l)
      (ap (λ (x : ℕ). (x ∷ start (earliest b) v ∷ finish (lowest b) (earliest b) v ∷ []) ++ three_times b (highest b) (windows b).late v)
      (earliest_is b A v l))

  pub table_is : (o : List ℕ) → table_from block early late o ≡ window_table b ++ drop (window_numbers b) o
  unfolding window_table table_from
  table_is o = rw (U.shape.n, joined_ext (six_of u early late) _ (nodes b) six_is) refl
