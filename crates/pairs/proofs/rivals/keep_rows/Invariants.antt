-- `pairs::rivals::keep_rows` meets its contract: the rows passed are those kept, the others stand as they stood. Assumes nothing.
use Prim.Native.Nat.{ℕ, ◌<◌, ◌≤◌}
use mathlib.Core.Path.{◌≡◌}
use Rattle.pairs.specs.inside.PairRows.{row}
use Rattle.pairs.specs.inside.RowSteps.{stays}
use Rattle.pairs.proofs.rivals.keep_rows.Given as goal

abbrev pub invariant-loop-j : goal.invariant-loop-j
invariant-loop-j l = (goal.iterator-loop-j).can_next l.j-iterator × (goal.iterator-loop-j).is_finite l.j-iterator
    × (l.fn.these.start ≤ l.j-iterator.start) × (l.j-iterator.start ≤ l.fn.these.end) × (l.j-iterator.end ≡ l.fn.these.end)
    × ((i : ℕ) → i < l.j-iterator.start → l.fn.these.start ≤ i → row l.rows i ≡ stays l.u l.times.early l.times.late i (row l.initial.rows i))
    × ((i : ℕ) → i < l.fn.these.start → row l.rows i ≡ row l.initial.rows i)
    × ((i : ℕ) → l.j-iterator.start ≤ i → row l.rows i ≡ row l.initial.rows i)
