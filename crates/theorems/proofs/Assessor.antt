-- What answers the assessor's three questions. Assumes nothing.
use Prim.Native.Nat.{ℕ, ◌+◌, ◌*◌, ◌≤◌, ◌<◌}
use mathlib.Core.Path.{◌≡◌, ap, ◌∙◌}
use mathlib.Core.List.{List}
use native.Mathlib.Omega.{arith}
use lib.ListN.{get_or}
use Rattle.lists.specs.Bytes.{little}
use Rattle.record.specs.Layout.{decoded}
use Rattle.record.specs.Promises.{Whole, Reads}
use Rattle.record.specs.Refusals.{Answer}
use Rattle.std.specs.Prelude.{Ok as Accepted}
use Rattle.record.specs.declared.Block.{Block}
use Rattle.record.proofs.Answers.{accepted_so}
use Rattle.record.proofs.AcceptedRanges.{ranges}
use Rattle.model.specs.Nodes.{EX, nodes, node, chosen}
use Rattle.model.specs.Cycles.{cycles_each, start, play, three_times, play_place}
use Rattle.model.specs.Rounds.{windows, window_place}
use Rattle.model.proofs.TableNumbers.{window_at}
use Rattle.analysis.specs.Result.{result_record}
use Rattle.analysis.specs.Promises.{Analyses, WritesWindows}
use Rattle.analysis.proofs.Outcomes.{analyse_fine, windows_fine}
use Rattle.play.specs.Promises.{Plays}
use Rattle.theorems.specs.Words.{AcceptedBlock, AcceptedList, AnomalyOfE}
use Rattle.theorems.proofs.PlaysInside.{late_below}
use Rattle.theorems.proofs.TablesWithin.{window_kept}
use Rattle.theorems.proofs.ResultBytes.{origin_byte, number_bytes, analysed_result, copied_number, copied_origin}
use Rattle.theorems.proofs.LongestLatencies.{worst_e}
use Rattle.theorems.proofs.Demand.{inside, outcomes_inside}

-- WHICH NUMBERS WERE EVER MEANT FOR A PLANT: a result record has its block's own origin, classroom 1 or production 2, and
-- its block's own number
pub origin_kept : (b : Block) (o o' : List ℕ) (a : Answer) → Analyses b o a o' → a ≡ Accepted tt
    → (get_or o' 5 0 ≡ b.origin) × (1 ≤ b.origin) × (b.origin ≤ 2) × (little 4 o' 8 ≡ b.number)
origin_kept b o o' a x e =
    let c = (ranges b (analyse_fine b o (accepted_so a e x.answer)).0).origin in
    rw (analysed_result b o o' a x e) (origin_byte b, c.0, c.1, number_bytes b x.whole)

-- from record to record: byte 5 is byte 10 of the block record, bytes 8 to 11 are its bytes 12 to 15
pub origin_copied : (s o o' : List ℕ) (b : Block) (a : Answer) → Reads s (Accepted b) → Analyses b o a o' → a ≡ Accepted tt
    → (get_or o' 5 0 ≡ get_or s 10 0) × ((k : ℕ) → k < 4 → get_or o' (8 + k) 0 ≡ get_or s (12 + k) 0)
origin_copied s o o' b a y x e =
    let i : o' ≡ result_record (decoded s) = analysed_result b o o' a x e ∙ ap result_record y.block in
    rw i (copied_origin s y.bytes, copied_number s y.bytes)

-- WHY A RUN WITH EVERY LATENCY AT ITS LONGEST FINISHED SOONER THAN THE REAL ONE: so does block E, at 23; with its first
-- latency at 1 it ends at 27, which is its bound
pub anomaly : AnomalyOfE
anomaly = worst_e

-- WHETHER AN INSTRUCTION CAN WAIT FOR ITS UNIT WITHOUT END: no. In every play it starts by its latest start, before
-- 513 × n cycles are over
pub no_endless_wait : (b : Block) → Whole b → AcceptedBlock b → (l : List ℕ) → AcceptedList b l → (i : ℕ) → i < b.n
    → (start (play b (chosen b l)) (node EX i) ≤ start (windows b).late (node EX i)) × (start (windows b).late (node EX i) < cycles_each * b.n)
no_endless_wait b whole accepted l listed i h =
    let v : node EX i < nodes b = omega arith in
    ((inside b whole accepted l listed (node EX i) v).start_in.to, late_below b accepted (λ k. (whole.each k).hi) (node EX i) v)

-- the same of the numbers written: EX's start in what a play writes, and its latest start in what `windows` writes
pub outcomes_wait : (b : Block) (l o o' : List ℕ) (a : Answer) → WritesWindows b o a o' → a ≡ Accepted tt
    → (q q' : List ℕ) (c : Answer) → Plays b l q c q' → c ≡ Accepted tt → (i : ℕ) → i < b.n
    → (get_or q' (play_place (node EX i) 1) 0 ≤ get_or o' (window_place (node EX i) 4) 0) × (get_or o' (window_place (node EX i) 4) 0 < cycles_each * b.n)
unfolding three_times
outcomes_wait b l o o' a x e q q' c y f i h =
    let v : node EX i < nodes b = omega arith in
    let fine = windows_fine b o (accepted_so a e x.answer) in
    let in_window = (outcomes_inside b l o o' a x e q q' c y f (node EX i) 1 v (omega arith)).to in
    let late = window_kept b o o' a x e (window_place (node EX i) 4) (omega arith) ∙ window_at b (node EX i) 4 v (omega arith) in
    (in_window, rw late (late_below b fine.0 (λ k. (x.whole.each k).hi) (node EX i) v))
