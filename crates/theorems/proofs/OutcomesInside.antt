-- What the operations give keeps the theorems too: what a play writes lies within what `windows` writes, and its length is at
-- most the bound that `analyse` writes. Assumes nothing.
use Prim.Native.Nat.{ℕ, ◌+◌, ◌≤◌, ◌<◌}
use mathlib.Core.Path.{◌≡◌, sym}
use mathlib.Core.List.{List}
use native.Mathlib.Omega.{arith}
use lib.ListN.{get_or}
use Rattle.lists.specs.Bytes.{little}
use Rattle.record.specs.Refusals.{verdict}
use Rattle.record.specs.Refusals.{Answer}
use Rattle.std.specs.Prelude.{Ok as Accepted}
use Rattle.record.specs.declared.Block.{Block}
use Rattle.record.proofs.Answers.{accepted_so}
use Rattle.record.proofs.AcceptedRanges.{ranges}
use Rattle.model.specs.Nodes.{nodes, entry, chosen}
use Rattle.model.specs.Cycles.{play_place}
use Rattle.model.specs.Rounds.{window_place}
use Rattle.model.proofs.Limits.{bound_limit}
use Rattle.analysis.specs.Promises.{Analyses, WritesWindows}
use Rattle.play.specs.Refusals.{play_tests}
use Rattle.play.specs.Promises.{Plays, GivesPlayLength}
use Rattle.play.proofs.Outcomes.{length_fine, play_fine}
use Rattle.theorems.specs.Words.{Within}
use Rattle.theorems.proofs.PlaysInside.{play_inside, length_bound, chosen_fits}
use Rattle.theorems.proofs.TablesWithin.{table_within, window_kept, play_kept}
use Rattle.theorems.proofs.ResultBytes.{bound_bytes, analysed_result}

module _ (b : Block) (l : List ℕ) where
  pub written_within : (o o' : List ℕ) (a : Answer) → WritesWindows b o a o' → a ≡ Accepted tt
      → (q q' : List ℕ) (c : Answer) → Plays b l q c q' → c ≡ Accepted tt
      → (v k : ℕ) → v < nodes b → k < 3
      → Within (get_or o' (window_place v k) 0) (get_or q' (play_place v k) 0) (get_or o' (window_place v (3 + k)) 0)
  written_within o o' a x e q q' c y f v k h m =
      let z : verdict (play_tests b l q) ≡ (0, 0) = accepted_so c f y.answer in
      let t = play_fine b l q z in
      rw (
        window_kept b o o' a x e (window_place v k) (omega arith),
        window_kept b o o' a x e (window_place v (3 + k)) (omega arith),
        play_kept b l q q' c y f (play_place v k) (omega arith),
      )
      (table_within b (chosen b l) v k h m (play_inside b t.0 (λ i. (y.whole.each i).hi) (chosen b l) (chosen_fits b t.0 l t.2) v h))

  pub given_bound : (o o' : List ℕ) (a : Answer) → Analyses b o a o' → a ≡ Accepted tt
      → (k : ℕ) → GivesPlayLength b l (Accepted k) → k ≤ little 2 o' 6
  given_bound o o' a x e k y =
      let t = length_fine b l (sym y.answer) in
      let A = ranges b t.0 in
      let cap : (i : ℕ) → (entry b i).hi ≤ 255 = λ i. (x.whole.each i).hi in
      rw (analysed_result b o o' a x e, bound_bytes b (omega (arith, bound_limit b A cap, A.n.1)), y.cycles)
      (length_bound b t.0 cap (chosen b l) (chosen_fits b t.0 l t.1))
