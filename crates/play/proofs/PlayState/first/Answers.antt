-- `play::PlayState::first` meets its contract. Assumes nothing.
use mathlib.Core.Path.{refl}
use Rattle.model.specs.Cycles.{first_state}
use Rattle.play.proofs.PlayState.first.Goals as goal

pub returns : goal.returns
unfolding first_state
returns c = refl {a = first_state}
