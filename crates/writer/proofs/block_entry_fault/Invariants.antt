-- `writer::block_entry_fault` meets its contract: no entry passed breaks its rule. Assumes nothing.
use mathlib.Core.Path.{◌≡◌}
use mathlib.Core.Bool.{false}
use Prim.Native.Nat.{ℕ, ◌<◌}
use Rattle.record.specs.Rules.{broken}
use Rattle.record.specs.Layout.{encoded}
use Rattle.writer.proofs.block_entry_fault.Given as goal

abbrev pub invariant-loop-i : goal.invariant-loop-i
invariant-loop-i l = (j : ℕ) → j < l.i → broken (encoded l.fn.b) j ≡ false
