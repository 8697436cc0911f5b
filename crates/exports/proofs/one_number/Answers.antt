-- `exports::one_number` meets its contract. Assumes nothing.
use Rattle.std.proofs.Common.{refl}
use Rattle.exports.specs.Doors.{coded}
use Rattle.exports.proofs.one_number.Goals as goal

pub returns-in-Ok : goal.returns-in-Ok
unfolding coded
returns-in-Ok c = rw c.in-Ok.is refl
