-- `play::refusals::lent_answer` meets its contract: each `return` is the first test that failed. Assumes nothing.
use mathlib.Core.Path.{sym, ◌∙◌}
use native.Mathlib.Omega.{arith}
use Rattle.play.proofs.LatencyList.{list_length, list_latency, list_none, room_short, room_right}
use Rattle.play.proofs.refusals.lent_answer.Goals as goal

pub returns-then-room-need : goal.returns-then-room-need
returns-then-room-need c =
    sym (room_short c.args.b c.args.lat.now c.args.room (omega arith))

pub returns-then-lat-n : goal.returns-then-lat-n
returns-then-lat-n c =
    sym (room_right c.args.b c.args.lat.now c.args.room (omega arith) ∙ list_length c.args.b c.args.lat.now (λ e. omega arith))

pub returns-in-Some : goal.returns-in-Some
returns-in-Some c =
    sym (room_right c.args.b c.args.lat.now c.args.room (omega arith)
    ∙ list_latency c.args.b c.args.lat.now (omega arith) _ c.in-Some.ensures.0 c.in-Some.ensures.1)

pub returns-in-None : goal.returns-in-None
returns-in-None c =
    sym (room_right c.args.b c.args.lat.now c.args.room (omega arith)
    ∙ list_none c.args.b c.args.lat.now (omega arith) (omega (arith, c.in-None.ensures)))
