-- `choices::rows::rows_of` meets its contract: `last` has the sources of all registers, and the rows passed are filled. Assumes nothing.
use mathlib.Core.Path.{◌≡◌}
use Prim.Native.Nat.{◌≤◌}
use lib.ListN.{length}
use Rattle.unpacked.specs.inside.Sources.{Sources}
use Rattle.choices.proofs.RowsFilled.{Filled, Blank}
use Rattle.choices.proofs.rows.rows_of.Given as goal

abbrev pub invariant-loop-j : goal.invariant-loop-j
invariant-loop-j l = (l.n ≡ l.b.n) × (l.j ≤ l.n) × (length l.rows ≡ 60) × Sources l.b l.j l.last × Filled l.b l.lat l.rows l.j × Blank l.rows l.j
