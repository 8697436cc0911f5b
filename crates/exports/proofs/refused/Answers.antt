-- `exports::refused` meets its contract. Assumes nothing.
use Rattle.std.proofs.Common.{arith}
use Rattle.exports.specs.Doors.{coded}
use Rattle.exports.proofs.refused.Goals as goal

pub returns : goal.returns
unfolding coded
returns c = omega (arith, c.number_of-number.ensures, c.place_of-place.ensures)
