-- `choices::notes::first_notes` meets its contract: no WB has a finish, all units are free, and the rest is 0. Assumes nothing.
use mathlib.Core.Path.{refl}
use Rattle.choices.proofs.NotesFirst.{notes_first}
use Rattle.choices.proofs.notes.first_notes.Goals as goal

pub returns : goal.returns
returns c =
    record {
      notes = λ b l rows P.
          notes_first b l rows P c.units_free.result c.units_free.ensures _
          (record { written = refl; waiting = refl; units = refl; fetch = refl; fetched = refl; decoded = refl; committed = refl });
    }
