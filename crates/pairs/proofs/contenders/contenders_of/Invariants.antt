-- `pairs::contenders::contenders_of` meets its contract: the front of the row has those of the instructions passed. Assumes nothing.
use Prim.Native.Nat.{◌+◌, ◌-◌, ◌≤◌}
use mathlib.Core.Path.{◌≡◌}
use mathlib.Core.Bool.{◌&&◌, not}
use lib.Dec.{eqb}
use lib.ListN.{length, take}
use Rattle.lists.specs.Lists.{numbers_where}
use Rattle.unpacked.specs.inside.UnpackedBlock.{kind_of}
use Rattle.pairs.specs.inside.RowNumbers.{Inside}
use Rattle.pairs.specs.inside.PairRows.{chain_at}
use Rattle.pairs.proofs.contenders.contenders_of.Given as goal

abbrev pub invariant-loop-i : goal.invariant-loop-i
invariant-loop-i l = (l.first ≡ l.j + 1 - l.w) × (l.first ≤ l.i) × (l.i - l.first ≤ l.j - l.first) × (l.len + l.first ≤ l.i) × (length l.row.numbers ≡ 60)
    × (take l.len l.row.numbers ≡ numbers_where l.first l.i (λ k. eqb (kind_of l.u k) (kind_of l.u l.j) && not (chain_at l.a (l.j + 1) (k + 1))))
    × Inside l.row.numbers
