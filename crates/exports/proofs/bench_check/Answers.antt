-- `exports::bench_check` meets its contract, by what the reader promises. Assumes nothing.
use Rattle.std.proofs.Common.{ap, ◌∙◌}
use Rattle.exports.specs.Doors.{coded}
use Rattle.exports.proofs.DoorVerdicts.{reading_place}
use Rattle.exports.proofs.bench_check.Goals as goal

pub refused-requires : goal.refused-requires
refused-requires c = reading_place _ _ c.in-Err.ensures

pub returns-in-Ok : goal.returns-in-Ok
unfolding coded
returns-in-Ok c = record { bytes = c.read.ensures.bytes; answer = ap coded c.in-Ok.ensures.answer }

pub returns-in-Err : goal.returns-in-Err
returns-in-Err c = record { bytes = c.read.ensures.bytes; answer = c.refused.ensures ∙ ap coded c.in-Err.ensures.answer }
