-- `exports::bench_recode` meets its contract, by what the reader and the operation promise. Assumes nothing.
use Rattle.exports.proofs.DoorVerdicts.{reading_place, door_refused}
use Rattle.exports.proofs.OperationDoors.{recode_place, recode_door}
use Rattle.exports.proofs.bench_recode.Goals as goal

pub one_number-requires : goal.one_number-requires
one_number-requires c = recode_place _ _ c.in-Ok.ensures _ _ _ c.write.ensures

pub returns-in-Ok : goal.returns-in-Ok
returns-in-Ok c = recode_door _ _ c.in-Ok.ensures _ _ _ c.write.ensures _ c.one_number.ensures

pub refused-requires : goal.refused-requires
refused-requires c = reading_place _ _ c.in-Err.ensures

pub returns-in-Err : goal.returns-in-Err
returns-in-Err c = door_refused _ _ _ c.in-Err.ensures _ _ _ c.refused.ensures
