-- `writer::put_entries` meets its contract: the entries passed stand behind the header, and the rest is as it was. Assumes nothing.
use mathlib.Core.Path.{◌≡◌}
use lib.ListN.{length}
use Rattle.record.proofs.OutputVerdicts.{entries_in}
use Rattle.writer.proofs.put_entries.Given as goal

abbrev pub invariant-loop-i : goal.invariant-loop-i
invariant-loop-i l = (length l.out ≡ 512) × (l.out ≡ entries_in l.fn.b l.initial.out l.i)
