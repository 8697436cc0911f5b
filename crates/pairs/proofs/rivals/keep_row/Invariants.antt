-- `pairs::rivals::keep_row` meets its contract: those kept of the ones passed stand in front. Assumes nothing.
use Prim.Native.Nat.{◌≤◌}
use mathlib.Core.Path.{◌≡◌}
use lib.ListN.{drop, length, take}
use Rattle.pairs.specs.inside.RowNumbers.{Inside}
use Rattle.pairs.specs.inside.RowSteps.{stays}
use Rattle.pairs.proofs.rivals.keep_row.Given as goal

abbrev pub invariant-loop-k : goal.invariant-loop-k
invariant-loop-k l = (l.k ≤ l.end) × (length l.row.numbers ≡ length l.initial.row.numbers) × (l.len ≤ l.k)
    × (take l.len l.row.numbers ≡ stays l.u l.times.early l.times.late l.j (take l.k l.initial.row.numbers))
    × (drop l.k l.row.numbers ≡ drop l.k l.initial.row.numbers) × Inside l.row.numbers
