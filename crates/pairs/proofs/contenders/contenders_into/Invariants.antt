-- `pairs::contenders::contenders_into` meets its contract: each row passed has its contenders. Assumes nothing.
use Prim.Native.Nat.{ℕ, ◌<◌, ◌≤◌}
use mathlib.Core.Path.{◌≡◌}
use Rattle.pairs.specs.inside.PairRows.{row}
use Rattle.pairs.specs.inside.RowSteps.{nearby}
use Rattle.pairs.proofs.contenders.contenders_into.Given as goal

abbrev pub invariant-loop-j : goal.invariant-loop-j
invariant-loop-j l = (l.j ≤ l.n) × ((i : ℕ) → i < l.j → row l.rows i ≡ nearby l.w l.v.instructions l.a i)
