-- `unpacked::stages::ready_id` meets its contract. Assumes nothing.
use Prim.Native.Nat.{◌+◌, ◌*◌}
use mathlib.Core.Path.{◌≡◌}
use native.Mathlib.Omega.{arith}
use Rattle.unpacked.specs.inside.ReadyByStage.{ready_id}
use Rattle.unpacked.proofs.stages.ready_id.Goals as goal

pub returns : goal.returns
unfolding ready_id
returns c =
    let e : 5 * c.args.i + 0 ≡ 5 * c.args.i = omega arith in
    (cc, omega arith)
