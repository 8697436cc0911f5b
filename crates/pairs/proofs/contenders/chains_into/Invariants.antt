-- `pairs::contenders::chains_into` meets its contract: the rows passed have the chains, and row 0 has none. Assumes nothing.
use Prim.Native.Nat.{ℕ, ◌+◌, ◌<◌, ◌≤◌}
use mathlib.Core.Path.{◌≡◌}
use Rattle.record.specs.declared.Block.{Block}
use Rattle.model.specs.Paths.{has}
use Rattle.model.specs.inside.RegisterChains.{chains}
use Rattle.unpacked.specs.inside.UnpackedBlock.{Instructions}
use Rattle.pairs.specs.inside.RowSteps.{NoneFirst}
use Rattle.pairs.specs.inside.PairRows.{chain_at}
use Rattle.pairs.proofs.contenders.chains_into.Given as goal

abbrev pub invariant-loop-j : goal.invariant-loop-j
invariant-loop-j l = (l.j ≤ l.n) × NoneFirst l.a
    × ((b : Block) → b.n ≡ l.n → Instructions b l.v.instructions → (i x : ℕ) → i < l.n → x < l.j → chain_at l.a (x + 1) (i + 1) ≡ has (chains b) x i)
