-- `record::check::four_at` meets its contract. Assumes nothing.
use mathlib.Core.Path.{◌≡◌}
use Prim.Native.Nat.{◌+◌}
use native.Mathlib.Omega.{arith}
use Rattle.lists.specs.Bytes.{little}
use Rattle.record.proofs.check.four_at.Goals as goal

pub returns : goal.returns
unfolding little
returns c =
    let i = c.args.i in
    let second : i + 1 + 1 ≡ i + 2 = omega arith in
    let third : i + 2 + 1 ≡ i + 3 = omega arith in
    rw (second, third) (omega (arith, c.from_le_bytes.ensures))
