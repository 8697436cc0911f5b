-- `reader::entry_fault` meets its contract: no entry passed breaks its rule. Assumes nothing.
use mathlib.Core.Path.{◌≡◌}
use mathlib.Core.Bool.{false}
use Prim.Native.Nat.{ℕ, ◌<◌}
use Rattle.record.specs.Rules.{broken}
use Rattle.reader.proofs.entry_fault.Given as goal

abbrev pub invariant-loop-i : goal.invariant-loop-i
invariant-loop-i l = (j : ℕ) → j < l.i → broken l.s j ≡ false
