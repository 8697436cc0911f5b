-- `analysis::outputs::put_all_times` meets its contract: the entries passed stand behind the header, and the rest is as it was. Assumes
use Prim.Native.Nat.{◌≤◌}
use mathlib.Core.Path.{◌≡◌}
use lib.ListN.{length}
use Rattle.lists.proofs.JoinedPieces.{pieces_in}
use Rattle.analysis.specs.inside.OutputSteps.{times_at}
use Rattle.analysis.proofs.outputs.put_all_times.Given as goal

abbrev pub invariant-loop-i : goal.invariant-loop-i
invariant-loop-i l = (l.i ≤ 60) × (length l.out ≡ 512) × (l.out ≡ pieces_in 8 28 (times_at l.n l.u l.times.early l.times.late) l.initial.out l.i)
