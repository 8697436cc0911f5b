-- `analysis::outputs::put_table` meets its contract: the nodes passed have their six numbers, and the rest is as it was. Assumes nothing.
use Prim.Native.Nat.{◌≤◌}
use mathlib.Core.Path.{◌≡◌}
use lib.ListN.{length}
use Rattle.analysis.proofs.WindowTable.{table_in}
use Rattle.analysis.proofs.outputs.put_table.Given as goal

abbrev pub invariant-loop-v : goal.invariant-loop-v
invariant-loop-v l = (l.v ≤ l.end) × (length l.out ≡ length l.initial.out) × (l.out ≡ table_in l.block.instructions l.times.early l.times.late l.initial.out l.v)
