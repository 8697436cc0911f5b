-- `reader::entries_of` meets its contract: each element passed is the entry of the record. Assumes nothing.
use mathlib.Core.Path.{◌≡◌}
use Prim.Native.Nat.{ℕ, ◌<◌}
use lib.ListN.{length, get_or}
use Rattle.record.specs.Layout.{entry_at, no_entry}
use Rattle.reader.proofs.entries_of.Given as goal

abbrev pub invariant-loop-i : goal.invariant-loop-i
invariant-loop-i l = (length l.entry-items ≡ 60) × ((j : ℕ) → j < l.i → get_or l.entry-items j no_entry ≡ entry_at l.s j)
