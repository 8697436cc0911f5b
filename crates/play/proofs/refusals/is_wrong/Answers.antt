-- `play::refusals::is_wrong` meets its contract. Assumes nothing.
use mathlib.Core.Path.{refl}
use borrow.Author.Tests.{lt-ltb, le-ltb}
use Rattle.play.proofs.refusals.is_wrong.Goals as goal

pub returns-then-l-e : goal.returns-then-l-e
returns-then-l-e c = rw (lt-ltb c.args.l c.args.e.lo c.if-l-e.true) refl

pub returns-else-l-e : goal.returns-else-l-e
returns-else-l-e c = rw (le-ltb c.args.l c.args.e.lo c.if-l-e.false) refl
