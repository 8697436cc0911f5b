-- `rounds::times::commit_into` meets its contract. Assumes nothing.
use mathlib.Core.Path.{refl}
use Rattle.rounds.specs.inside.FiveStarts.{committed}
use Rattle.rounds.proofs.times.commit_into.Goals as goal

pub returns : goal.returns
unfolding committed
returns c =
    rw (c.time-3.ensures, c.ready_cm-c.ensures.0, c.time-2.ensures, c.from.ensures, c.time.ensures) refl
