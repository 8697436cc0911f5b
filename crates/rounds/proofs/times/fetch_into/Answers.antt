-- `rounds::times::fetch_into` meets its contract. Assumes nothing.
use mathlib.Core.Path.{refl}
use native.Mathlib.Nat.{add-zero}
use Rattle.rounds.specs.inside.FiveStarts.{fetched}
use Rattle.rounds.proofs.times.fetch_into.Goals as goal

pub returns : goal.returns
unfolding fetched
returns c =
    rw (c.time-2.ensures, c.ready_id-b.ensures.0, c.time.ensures, c.ready_if-a.ensures.0, add-zero) refl
