-- `trial_analysis::shapes::check` is safe and ends: both sums stay below where they are reduced. Assumes nothing.
use Rattle.std.proofs.Common.{◌<◌}
use Rattle.trial_analysis.proofs.shapes.check.Given as goal

abbrev pub invariant-loop-x : goal.invariant-loop-x
invariant-loop-x l = l.a < 65535 × l.b < 65535
