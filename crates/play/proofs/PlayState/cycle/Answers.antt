-- `play::PlayState::cycle` meets its contract: the outcome is that of its answer. Assumes nothing.
use Rattle.std.proofs.Common.{sym}
use Rattle.play.proofs.Outcomes.{cycle_fine, cycle_refused, cycle_done}
use Rattle.play.proofs.PlayState.cycle.Goals as goal

pub next_state-requires : goal.next_state-requires
next_state-requires c = cycle_fine _ _ _ (sym c.in-Ok.ensures.0)

pub returns-in-Ok : goal.returns-in-Ok
returns-in-Ok c = cycle_done _ _ _ c.in-Ok.ensures.1 _ c.in-Ok.ensures.0 c.next_state.ensures

pub returns-in-Err : goal.returns-in-Err
returns-in-Err c = cycle_refused _ _ _ c.in-Err.ensures.1 _ c.in-Err.ensures.0
