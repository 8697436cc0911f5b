-- `record::check::check_of` meets its contract: after k words the two sums are those of the definition. Assumes nothing.
use mathlib.Core.Path.{◌≡◌}
use Prim.Native.Nat.{◌<◌}
use Rattle.record.specs.Check.{sum_a, sum_b}
use Rattle.record.proofs.check.check_of.Given as goal

abbrev pub invariant-loop-word : goal.invariant-loop-word
invariant-loop-word l =
    (l.a < 65535) × (l.b < 65535) × (l.a ≡ sum_a l.s l.word-index) × (l.b ≡ sum_b l.s l.word-index)
