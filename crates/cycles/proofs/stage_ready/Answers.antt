-- `cycles::stage_ready` meets its contract. Assumes nothing.
use native.Mathlib.Omega.{arith}
use Rattle.unpacked.specs.inside.ReadyByStage.{ready_wb}
use Rattle.cycles.specs.inside.NodeTurn.{stage_ready}
use Rattle.cycles.proofs.stage_ready.Goals as goal

pub returns-in-Write : goal.returns-in-Write
unfolding stage_ready ready_wb
returns-in-Write c = (rw c.in-Write.is cc, omega arith)
