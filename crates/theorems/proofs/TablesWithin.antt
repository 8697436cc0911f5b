-- The numbers of the two tables: each of the play table lies within its window, and none of the window table exceeds the cycles
-- of n instructions. Assumes nothing.
use Prim.Native.Nat.{ℕ, zero, suc, ◌+◌, ◌*◌, ◌≤◌, ◌<◌}
use mathlib.Core.Path.{◌≡◌, refl, ap, ◌∙◌}
use mathlib.Core.List.{List, ◌++◌}
use native.Mathlib.Omega.{arith}
use lib.ListN.{get_or, drop, get_or-append}
use Rattle.record.specs.Refusals.{Answer}
use Rattle.std.specs.Prelude.{Ok as Accepted}
use Rattle.record.specs.declared.Block.{Block}
use Rattle.record.proofs.AcceptedRanges.{Ranges, ranges}
use Rattle.model.specs.Nodes.{nodes, entry, instruction, highest, chosen}
use Rattle.model.specs.Paths.{contending}
use Rattle.model.specs.Cycles.{cycles_each, finish, ready, three_times, play_place, play_numbers, play_table}
use Rattle.model.specs.Rounds.{R, windows, window_place, window_numbers, window_table}
use Rattle.model.proofs.TableNumbers.{six, window_at, window_place_lem, length_windows, three, play_at, length_plays}
use Rattle.model.proofs.TimesInOrder.{earliest_is}
use Rattle.model.proofs.RoundsEnd.{windows_settled}
use Rattle.model.proofs.Limits.{earliest_limit, ready_limit_lem, windows_limit}
use Rattle.analysis.specs.Result.{tabled}
use Rattle.analysis.specs.Promises.{WritesWindows}
use Rattle.play.specs.Promises.{played, Plays}
use Rattle.record.proofs.Answers.{accepted_so}
use Rattle.theorems.specs.Words.{AcceptedBlock, Within, Inside}

module _ (b : Block) where
  module _ (lat : ℕ → ℕ) where
    each_within : (v k : ℕ) → k < 3 → Inside b lat v → Within (get_or (six b v) k 0) (get_or (three b lat v) k 0) (get_or (six b v) (3 + k) 0)
    unfolding three_times R
    each_within v zero h i = i.ready_in
    each_within v (suc zero) h i = i.start_in
    each_within v (suc (suc zero)) h i = i.finish_in
    each_within v (suc (suc (suc k))) h i = absurd (omega arith)

    pub table_within : (v k : ℕ) → v < nodes b → k < 3 → Inside b lat v
        → Within (get_or (window_table b) (window_place v k) 0) (get_or (play_table b lat) (play_place v k) 0) (get_or (window_table b) (window_place v (3 + k)) 0)
    table_within v k h q i =
        rw (window_at b v k h (omega arith), window_at b v (3 + k) h (omega arith), play_at b lat v k h q) (each_within v k q i)

  -- ---- no number of the window table exceeds 513 × n cycles
  module _ (accepted : AcceptedBlock b) (cap : (i : ℕ) → (entry b i).hi ≤ 255) where
    abbrev A : Ranges b
    A = ranges b accepted

    by_settled : (v : ℕ) → v < nodes b → ready b (highest b) (windows b).late v ≤ cycles_each * (instruction v + 1)
    unfolding R
    by_settled v h = rw (windows_settled b).late (ready_limit_lem b A cap (contending b) (windows b).known v h)

    each_few : (v k : ℕ) → v < nodes b → k < 6 → get_or (six b v) k 0 ≤ cycles_each * b.n
    unfolding three_times finish
    each_few v zero h q = omega (arith, earliest_is b A v h, earliest_limit b A cap v h)
    each_few v (suc zero) h q = omega (arith, earliest_limit b A cap v h)
    each_few v (suc (suc zero)) h q = omega (arith, earliest_limit b A cap v h)
    each_few v (suc (suc (suc zero))) h q = omega (arith, by_settled v h)
    each_few v (suc (suc (suc (suc zero)))) h q = omega (arith, windows_limit b A cap v h)
    each_few v (suc (suc (suc (suc (suc zero))))) h q = omega (arith, windows_limit b A cap v h)
    each_few v (suc (suc (suc (suc (suc (suc k)))))) h q = absurd (omega arith)

    pub table_few : (p : ℕ) → p < window_numbers b → get_or (window_table b) p 0 ≤ cycles_each * b.n
    table_few p h =
        let (v, k, l, q, e) = window_place_lem b p h in
        omega (arith, ap (λ (x : ℕ). get_or (window_table b) x 0) e, window_at b v k l q, each_few v k l q)

-- ---- what the operations leave in their outputs has the tables at its front
pub window_kept : (b : Block) (o o' : List ℕ) (a : Answer) → WritesWindows b o a o' → a ≡ Accepted tt → (k : ℕ) → k < window_numbers b
    → get_or o' k 0 ≡ get_or (window_table b) k 0
unfolding tabled
window_kept b o o' a x e k h =
    let i : o' ≡ window_table b ++ drop (window_numbers b) o = x.output ∙ (rw (accepted_so a e x.answer) refl) in
    rw i (get_or-append (window_table b) (drop (window_numbers b) o) 0 k (omega (arith, length_windows b)))

pub play_kept : (b : Block) (l o o' : List ℕ) (a : Answer) → Plays b l o a o' → a ≡ Accepted tt → (k : ℕ) → k < play_numbers b
    → get_or o' k 0 ≡ get_or (play_table b (chosen b l)) k 0
unfolding played
play_kept b l o o' a x e k h =
    let i : o' ≡ play_table b (chosen b l) ++ drop (play_numbers b) o = x.output ∙ (rw (accepted_so a e x.answer) refl) in
    rw i (get_or-append (play_table b (chosen b l)) (drop (play_numbers b) o) 0 k (omega (arith, length_plays b (chosen b l))))
