-- `pairs::contenders::join_rows` meets its contract: the columns passed are those of the two rows joined. Assumes nothing.
use Prim.Native.Nat.{ℕ, ◌<◌, ◌≤◌}
use mathlib.Core.Path.{◌≡◌}
use mathlib.Core.Bool.{◌||◌, false}
use lib.ListN.{get_or, length}
use Rattle.pairs.proofs.contenders.join_rows.Given as goal

abbrev pub invariant-loop-k : goal.invariant-loop-k
invariant-loop-k l = (l.k ≤ 64) × (length l.row ≡ 64) × ((u : ℕ) → u < l.k → get_or l.row u false ≡ (get_or l.first u false || get_or l.second u false))
