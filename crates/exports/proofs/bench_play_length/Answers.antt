-- `exports::bench_play_length` meets its contract, by what the reader and the play promise. Assumes nothing.
use Rattle.exports.proofs.DoorVerdicts.{reading_place, door_refused}
use Rattle.exports.proofs.OperationDoors.{length_place, length_kept, length_given}
use Rattle.exports.proofs.bench_play_length.Goals as goal

pub refused-requires : goal.refused-requires
refused-requires c = length_place _ _ c.in-Ok.ensures _ _ c.in-Err-play_length.ensures

pub refused-requires-in-Err : goal.refused-requires-in-Err
refused-requires-in-Err c = reading_place _ _ c.in-Err.ensures

pub returns-in-Ok-play_length : goal.returns-in-Ok-play_length
returns-in-Ok-play_length c = length_given _ _ c.in-Ok.ensures _ _ _ c.in-Ok-play_length.ensures

pub returns-in-Err-play_length : goal.returns-in-Err-play_length
returns-in-Err-play_length c =
    length_kept _ _ c.in-Ok.ensures _ _ _ c.in-Err-play_length.ensures _ c.refused.ensures

pub returns-in-Err : goal.returns-in-Err
returns-in-Err c = door_refused _ _ _ c.in-Err.ensures _ _ _ c.refused-in-Err.ensures
