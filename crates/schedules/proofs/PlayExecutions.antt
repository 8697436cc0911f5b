-- The EX of every play, by instruction, are served as a schedule demands: none starts before it is ready, one that is ready and
-- waits does so for all units of its kind, and one that starts has a unit. Off EX a node starts when it is ready. Assumes nothing.
use Prim.Native.Nat.{ℕ, ◌≤◌, ◌<◌}
use mathlib.Core.Path.{◌≡◌, refl, ap, ◌∙◌}
use mathlib.Core.Bool.{true, false}
use mathlib.Core.List.{List}
use native.Mathlib.Omega.{arith}
use native.Mathlib.Decide.{dec_le}
use lib.Dec.{leb}
use lib.ListN.{length}
use borrow.Author.Tests.{leb-true, le-leb}
use Rattle.lists.proofs.Bools.{same_test}
use Rattle.lists.proofs.NumbersWhere.{numbers_where_ext}
use Rattle.record.specs.Refusals.{block_verdict}
use Rattle.record.specs.declared.Block.{Block}
use Rattle.record.proofs.AcceptedRanges.{ranges}
use Rattle.model.specs.Nodes.{EX, nodes, node, instruction, is_ex, entry, fetch, highest, chosen}
use Rattle.model.specs.Cycles.{most_cycles, start, finish, ready, play}
use Rattle.model.proofs.Latencies.{stage_node, instruction_node, chosen_ex, latency_some, latency_mono}
use Rattle.schedules.specs.inside.Nets.{Net, Fits, Done, Sched, busy, count_busy}
use Rattle.schedules.specs.inside.Executions.{work, runs_at, count_running, Served, Fitting}
use Rattle.schedules.proofs.BlockNet.{ready_done, done_ready, count_ex}
use Rattle.schedules.proofs.PlayEnds.{limit_net, play_limit, play_started, play_sched}

-- the EX of i stands before that of j as i does before j
order_ex : (i j : ℕ) → leb (node EX i) (node EX j) ≡ leb i j
order_ex i j =
    same_test (leb (node EX i) (node EX j)) (leb i j)
    (λ t. le-leb i j (omega (arith, leb-true (node EX i) (node EX j) t)))
    (λ t. le-leb (node EX i) (node EX j) (omega (arith, leb-true i j t)))

module _ (b : Block) (z : block_verdict b ≡ (0, 0)) (cap : (i : ℕ) → (entry b i).hi ≤ 255) (l : List ℕ) (L : Fitting b l) where
  -- ---- the latencies are inside their limits, and so are the times

  -- no latency is 0
  fitting_least : (v : ℕ) → v < nodes b → 1 ≤ chosen b l v
  unfolding chosen
  fitting_least v h =
      let i : instruction v < b.n = omega arith in
      latency_some fetch _ v (omega arith) (omega (arith, L.least (instruction v) i, ((ranges b z).instruction (instruction v) i).lo))

  -- none is above the highest
  fitting_most : (v : ℕ) → v < nodes b → chosen b l v ≤ highest b v
  unfolding chosen highest
  fitting_most v h = latency_mono fetch _ _ v (L.most (instruction v) (omega arith))

  -- no node finishes after 30,780
  pub play_most : (v : ℕ) → v < nodes b → finish (chosen b l) (play b (chosen b l)) v ≤ most_cycles
  play_most v h = omega (arith, (ranges b z).n.1, play_limit b z cap (chosen b l) fitting_least fitting_most v h)

  -- ---- the play as a schedule
  abbrev G : Net
  G = limit_net b (ranges b z)

  abbrev s : List ℕ
  s = play b (chosen b l)

  fits : Fits G (chosen b l)
  fits = record { low = fitting_least; high = fitting_most }

  sched : Sched G (chosen b l) most_cycles (start s)
  sched = play_sched b z cap (λ v. 1) (λ v h. omega arith) (chosen b l) fits

  started : (v : ℕ) → v < nodes b → start s v < most_cycles
  started = play_started b z cap (λ v. 1) (λ v h. omega arith) (chosen b l) fits

  -- a ready time as a fact of the net
  abbrev ready_by : (v x : ℕ) → ready b (chosen b l) s v ≤ x → Done G (chosen b l) (start s) v x
  ready_by = ready_done b (ranges b z) (λ v. 1) (λ v h. omega arith) (chosen b l) s

  -- no node starts before it is ready
  ready_start : (v : ℕ) → v < nodes b → ready b (chosen b l) s v ≤ start s v
  ready_start v h = done_ready b (ranges b z) (λ v. 1) (λ v h. omega arith) (chosen b l) s v (start s v) (sched.ready v h (started v h))

  -- OFF EX A NODE STARTS WHEN IT IS READY
  pub starts_ready : (v : ℕ) → v < nodes b → is_ex v ≡ false → start (play b (chosen b l)) v ≡ ready b (chosen b l) (play b (chosen b l)) v
  starts_ready v h off = omega (arith, ready_start v h, at_once (dec_le (start s v) (ready b (chosen b l) s v)))
    where
      at_once : Dec (start s v ≤ ready b (chosen b l) s v) → start s v ≤ ready b (chosen b l) s v
      at_once (yes g) = g
      at_once (no g) = absurd (sched.prompt v (ready b (chosen b l) s v) h off (omega arith) (ready_by v _ (omega arith)))

  -- ---- what runs, by instruction

  -- an EX runs beside another as its instruction does
  busy_runs : (i t j : ℕ) → busy G (chosen b l) (start s) (node EX i) t (node EX j) ≡ runs_at (work b l) i t j
  unfolding busy runs_at
  busy_runs i t j =
      let own = instruction_node EX j (omega arith) in
      let beside = instruction_node EX i (omega arith) in
      rw (stage_node EX j (omega arith), own, beside, chosen_ex b l j, order_ex i j) refl

  -- nothing else takes a unit
  off_ex : (i t u : ℕ) → is_ex u ≡ false → busy G (chosen b l) (start s) (node EX i) t u ≡ false
  unfolding busy
  off_ex i t u e = rw e refl

  -- so as many EX run as instructions do
  count_runs : (i t : ℕ) → count_busy G (chosen b l) (start s) (node EX i) t ≡ count_running (work b l) i t
  count_runs i t =
      count_ex (busy G (chosen b l) (start s) (node EX i) t) (off_ex i t) b.n
      ∙ ap length
      (numbers_where_ext (λ j. busy G (chosen b l) (start s) (node EX i) t (node EX j)) (runs_at (work b l) i t) 0 b.n (λ j _ h. busy_runs i t j))

  -- EVERY PLAY SERVES ITS EX
  pub served : Served (work b l)
  served =
      record {
        ready = λ i h. ready_start (node EX i) (omega arith);
        waits = λ i t h r g.
            let x : is_ex (node EX i) ≡ true = rw (stage_node EX i (omega arith)) refl in
            rw (instruction_node EX i (omega arith), count_runs i t) at (sched.waits (node EX i) t (omega arith) x g (ready_by (node EX i) t r));
        room = λ i h.
            let v : node EX i < nodes b = omega arith in
            let x : is_ex (node EX i) ≡ true = rw (stage_node EX i (omega arith)) refl in
            rw (instruction_node EX i (omega arith), count_runs i (start s (node EX i))) at (sched.room (node EX i) v x (started (node EX i) v));
      }
