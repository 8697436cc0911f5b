-- `choices::notes::free_from` meets its contract: there is one unit of each kind. Assumes nothing.
use mathlib.Core.Path.{refl}
use borrow.Author.Tests.{lt-ltb, le-ltb}
use Rattle.model.specs.Cycles.{units}
use Rattle.choices.proofs.notes.free_from.Goals as goal

pub returns-then-z-lt-UNITS : goal.returns-then-z-lt-UNITS
unfolding units
returns-then-z-lt-UNITS c b k = rw (lt-ltb c.args.z 1 c.if-z-lt-UNITS.true) refl

pub returns-else-z-lt-UNITS : goal.returns-else-z-lt-UNITS
unfolding units
returns-else-z-lt-UNITS c b k = rw (le-ltb c.args.z 1 c.if-z-lt-UNITS.false) refl
