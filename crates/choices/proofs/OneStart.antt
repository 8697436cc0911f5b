-- One more EX start, as the code chooses it: the notes hold again, and one instruction fewer is without a start. Assumes nothing.
use Prim.Native.Nat.{ℕ, ◌+◌, ◌≤◌, ◌<◌, min}
use mathlib.Core.Path.{◌≡◌, sym, ap, ◌∙◌}
use mathlib.Core.Bool.{Bool, true, false, not}
use mathlib.Core.List.{List}
use native.Mathlib.Omega.{arith}
use lib.ListN.{length}
use Rattle.lists.specs.Lists.{pick, numbers_where}
use Rattle.lists.proofs.NumbersWhere.{length_but_one}
use Rattle.record.specs.declared.Block.{Block}
use Rattle.choices.specs.declared.Choice.{Choice}
use Rattle.choices.specs.inside.InstructionRows.{Playing}
use Rattle.choices.specs.inside.NoteSteps.{fixed, unit_times, end_of, key_of, Chooses, started_into}
use Rattle.choices.specs.inside.PlayNotes.{Notes}
use Rattle.choices.proofs.StartChosen.{chosen_next}
use Rattle.choices.specs.inside.InstructionRows.{row}
use Rattle.choices.specs.declared.Row.{Row}
use Rattle.choices.specs.declared.PlayNotes.{PlayNotes}
use Rattle.choices.proofs.NotesStarted.{notes_started, started_fixed, started_else}

-- how many of the first m have no start
abbrev waits : PlayNotes → ℕ → Bool
waits x i = not (fixed x i)

abbrev pub left : ℕ → PlayNotes → ℕ
left m x = length (numbers_where 0 m (waits x))

left_less : (m i : ℕ) (x x' : PlayNotes) → i < m → fixed x i ≡ false → fixed x' i ≡ true
    → ((j : ℕ) → j < m → (j ≡ i → ⊥) → fixed x' j ≡ fixed x j) → left m x' < left m x
left_less m i x x' l off on same =
    omega (
      arith,
      length_but_one (waits x) (waits x') 0 i m (omega arith) l (ap not on) (λ u _ g ne. ap not (sym (same u g ne))),
      ap (λ (t : Bool). pick {A = ℕ} (not t) 1 0) off,
    )

module _ (b : Block) (l : List ℕ) (rows : List Row) (P : Playing b l rows) (c m : ℕ) (x : PlayNotes) (N : Notes b l c m x)
    (some : c < m) (all : min b.n (c + b.w) ≤ m) (off : fixed x c ≡ false) (v : Choice) (R : Chooses c m rows x v)
    (k y : ℕ) (kind : k ≡ (row rows v.at).kind) (takes : y ≡ (row rows v.at).latency) where
  few : v.at < b.n
  few = omega (arith, R.among.below, N.few)

  from : (unit_times x k).first ≤ v.start
  unfolding key_of end_of
  from = rw kind (omega (arith, R.among.start))

  pub next_notes : Notes b l c m (started_into v.at v.start k y x)
  next_notes =
      let n = chosen_next b l rows P c m x N some all off v R in
      notes_started b l rows P c m x N v.at v.start k y R.among.below n.0 n.1
      (kind ∙ P.has.kind v.at few) (takes ∙ P.has.takes v.at few) from

  pub next_less : left m (started_into v.at v.start k y x) < left m x
  next_less =
      let n = chosen_next b l rows P c m x N some all off v R in
      let K = kind ∙ P.has.kind v.at few in
      let Y = takes ∙ P.has.takes v.at few in
      left_less m v.at x (started_into v.at v.start k y x) R.among.below n.0
      (started_fixed b l rows P c m x N v.at v.start k y R.among.below n.0 n.1 K Y from)
      (λ j h ne. started_else b l rows P c m x N v.at v.start k y R.among.below n.0 n.1 K Y from j (omega (arith, N.few)) ne)
