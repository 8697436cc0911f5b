-- The outcomes of the two operations, by the first test that fails; each promise leaves one. Assumes nothing.
use Prim.Native.Nat.{ℕ, ◌*◌, ◌≤◌, ◌<◌}
use mathlib.Core.Path.{◌≡◌}
use mathlib.Core.List.{List, ◌++◌}
use lib.ListN.{length, drop}
use lib.Dec.{eqb, leb}
use borrow.Author.Tests.{eq-eqb, ne_eqb, eqb-true, le-leb, lt-leb, leb-true}
use Rattle.std.specs.Prelude.{Ok as Accepted, Err as Refused}
use Rattle.record.specs.Refusals.{Answer, meaning, verdict, block_verdict}
use Rattle.record.specs.Promises.{Whole}
use Rattle.record.specs.declared.Block.{Block}
use Rattle.record.specs.declared.Reason.{Reason}
use Rattle.record.specs.declared.Reason.TheVariants.{Output}
use Rattle.record.proofs.Answers.{answered_one}
use Rattle.record.proofs.OutputVerdicts.{Outcome, put_refused, put_output, put_done, put_fine}
use Rattle.model.specs.Rounds.{window_table}
use Rattle.analysis.specs.Result.{result_record, analyse_tests, window_tests, analysed, tabled}
use Rattle.analysis.specs.Promises.{Analyses, WritesWindows}

-- ---- the analysis
module _ (b : Block) (o : List ℕ) (w : Whole b) where
  analysed_so : (a : Answer) (p : List ℕ) → Outcome b (eqb (length o) 512) (result_record b) o a p → Analyses b o a p
  unfolding analyse_tests analysed
  analysed_so a p x = record { whole = w; answer = x.answer; output = x.output }

  pub analyse_refused : (r : Reason) (a : Answer) → a ≡ Refused r → meaning a ≡ block_verdict b → Analyses b o a o
  analyse_refused r a e h = analysed_so a o (put_refused b _ _ o r a e h)

  pub analyse_output : block_verdict b ≡ (0, 0) → (length o ≡ 512 → ⊥) → Analyses b o (Refused Output) o
  analyse_output z h = analysed_so _ o (put_output b _ _ o z (ne_eqb (length o) 512 h))

  pub analyse_done : block_verdict b ≡ (0, 0) → length o ≡ 512 → (p : List ℕ) → p ≡ result_record b → Analyses b o (Accepted tt) p
  analyse_done z h p e = analysed_so _ p (put_done b _ _ o z (eq-eqb (length o) 512 h) p e)

module _ (b : Block) (o : List ℕ) where
  -- what an accepted analysis is
  pub analyse_fine : verdict (analyse_tests b o) ≡ (0, 0) → (block_verdict b ≡ (0, 0)) × (length o ≡ 512)
  unfolding analyse_tests
  analyse_fine z = let f = put_fine b _ z in (f.0, eqb-true _ _ f.1)

  -- analysing has one outcome
  pub analyse_one : (x y : Answer) (p q : List ℕ) → Analyses b o x p → Analyses b o y q → (x ≡ y) × (p ≡ q)
  analyse_one x y p q u v = answered_one x y p q u.answer u.output v.answer v.output

-- ---- the window table
module _ (b : Block) (o : List ℕ) (w : Whole b) where
  tabled_so : (a : Answer) (p : List ℕ) → Outcome b (leb (30 * b.n) (length o)) (window_table b ++ drop (30 * b.n) o) o a p → WritesWindows b o a p
  unfolding window_tests tabled
  tabled_so a p x = record { whole = w; answer = x.answer; output = x.output }

  pub windows_refused : (r : Reason) (a : Answer) → a ≡ Refused r → meaning a ≡ block_verdict b → WritesWindows b o a o
  windows_refused r a e h = tabled_so a o (put_refused b _ _ o r a e h)

  pub windows_output : block_verdict b ≡ (0, 0) → length o < 30 * b.n → WritesWindows b o (Refused Output) o
  windows_output z h = tabled_so _ o (put_output b _ _ o z (lt-leb (30 * b.n) (length o) h))

  pub windows_done : block_verdict b ≡ (0, 0) → 30 * b.n ≤ length o → (p : List ℕ) → p ≡ window_table b ++ drop (30 * b.n) o → WritesWindows b o (Accepted tt) p
  windows_done z h p e = tabled_so _ p (put_done b _ _ o z (le-leb (30 * b.n) (length o) h) p e)

module _ (b : Block) (o : List ℕ) where
  -- what an accepted window table is
  pub windows_fine : verdict (window_tests b o) ≡ (0, 0) → (block_verdict b ≡ (0, 0)) × (30 * b.n ≤ length o)
  unfolding window_tests
  windows_fine z = let f = put_fine b _ z in (f.0, leb-true _ _ f.1)

  -- the window table has one outcome
  pub windows_one : (x y : Answer) (p q : List ℕ) → WritesWindows b o x p → WritesWindows b o y q → (x ≡ y) × (p ≡ q)
  windows_one x y p q u v = answered_one x y p q u.answer u.output v.answer v.output
