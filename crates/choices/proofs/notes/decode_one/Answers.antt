-- `choices::notes::decode_one` meets its contract: four stores, of times worked out before them. Assumes nothing.
use mathlib.Core.Path.{refl}
use Rattle.choices.specs.inside.NoteSteps.{decoded_into}
use Rattle.choices.proofs.notes.decode_one.Goals as goal

pub returns : goal.returns
unfolding decoded_into
returns c =
    rw (
      c.time-4.ensures,
      c.time-3.ensures,
      c.time-2.ensures,
      c.time.ensures,
      c.decoded_of-decoded.ensures,
      c.fetch_of-fetch.ensures.0,
    )
    refl
