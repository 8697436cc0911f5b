-- `trial_record::judge::check` is safe and ends: both sums stay below where they are reduced. Assumes nothing.
use Rattle.std.proofs.Common.{◌<◌}
use Rattle.trial_record.proofs.judge.check.Given as goal

abbrev pub invariant-loop-word : goal.invariant-loop-word
invariant-loop-word l = l.a < 4294836225 × l.b < 4294836225
