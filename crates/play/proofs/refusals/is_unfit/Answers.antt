-- `play::refusals::is_unfit` meets its contract. Assumes nothing.
use mathlib.Core.Path.{refl}
use native.Mathlib.Omega.{arith}
use borrow.Author.Tests.{lt-ltb, le-ltb, ne_eqb, eq-eqb}
use Rattle.play.specs.inside.StartTest.{unfit_at}
use Rattle.play.proofs.refusals.is_unfit.Goals as goal

pub returns-then-x-eq65535 : goal.returns-then-x-eq65535
unfolding unfit_at
returns-then-x-eq65535 c = rw (eq-eqb c.args.x 65535 c.if-x-eq65535.true) refl

pub returns-then-x-t : goal.returns-then-x-t
unfolding unfit_at
returns-then-x-t c =
    rw (ne_eqb c.args.x 65535 c.if-x-eq65535.false, lt-ltb c.args.x c.args.t (omega (arith, c.if-x-t.true))) refl

pub returns-else-x-t : goal.returns-else-x-t
unfolding unfit_at
returns-else-x-t c =
    rw (ne_eqb c.args.x 65535 c.if-x-eq65535.false, le-ltb c.args.x c.args.t (omega (arith, c.if-x-t.false))) refl
