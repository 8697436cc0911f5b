-- `choices::choosing::hold` meets its contract: four stores, of numbers read before them. Assumes nothing.
use mathlib.Core.Path.{refl}
use Rattle.choices.specs.inside.NoteSteps.{held_into}
use Rattle.choices.proofs.choosing.hold.Goals as goal

pub returns : goal.returns
unfolding held_into
returns c =
    rw (c.time-4.ensures, c.max.ensures)
    (rw (c.time-3.ensures, c.min-3.ensures, c.time-2.ensures, c.min-2.ensures)
    (rw (c.time.ensures, c.min.ensures)
    (rw (c.max-z.ensures, c.max-y.ensures, c.from-r.ensures, c.from-q.ensures, c.from-p.ensures) refl)))
