-- `exports::bench_analyse` meets its contract, by what the reader and the operation promise. Assumes nothing.
use Rattle.exports.proofs.DoorVerdicts.{reading_place, door_refused}
use Rattle.exports.proofs.OperationDoors.{analyse_place, analyse_door}
use Rattle.exports.proofs.bench_analyse.Goals as goal

pub one_number-requires : goal.one_number-requires
one_number-requires c = analyse_place _ _ c.in-Ok.ensures _ _ _ c.analyse.ensures

pub returns-in-Ok : goal.returns-in-Ok
returns-in-Ok c = analyse_door _ _ c.in-Ok.ensures _ _ _ c.analyse.ensures _ c.one_number.ensures

pub refused-requires : goal.refused-requires
refused-requires c = reading_place _ _ c.in-Err.ensures

pub returns-in-Err : goal.returns-in-Err
returns-in-Err c = door_refused _ _ _ c.in-Err.ensures _ _ _ c.refused.ensures
