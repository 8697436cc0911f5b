-- `reader::entry_at` meets its contract. Assumes nothing.
use mathlib.Core.Path.{refl}
use native.Mathlib.Nat.{add-zero}
use Rattle.record.specs.Layout.{entry_at}
use Rattle.reader.proofs.entry_at.Goals as goal

pub returns : goal.returns
unfolding entry_at
returns c = rw add-zero refl
