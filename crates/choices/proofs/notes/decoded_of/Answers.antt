-- `choices::notes::decoded_of` meets its contract: one more than the largest of three times, or a note. Assumes nothing.
use mathlib.Core.Path.{refl}
use Rattle.choices.specs.inside.NoteSteps.{decoded_of}
use Rattle.choices.proofs.notes.decoded_of.Goals as goal

pub returns : goal.returns
unfolding decoded_of
returns c = rw (c.max.ensures, c.from-2.ensures, c.max-s.ensures, c.from.ensures, c.max-room.ensures) refl
