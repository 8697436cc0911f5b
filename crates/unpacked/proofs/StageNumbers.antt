-- The stages and their numbers. Assumes nothing.
use Prim.Native.Nat.{◌<◌}
use mathlib.Core.Path.{◌≡◌, refl}
use native.Mathlib.Omega.{arith}
use denote.Enum.Declared.{tag_of}
use Rattle.unpacked.specs.inside.StageNumbers.{number}
use Rattle.unpacked.specs.contracts.Stage.{the_type}
use Rattle.unpacked.specs.declared.Stage.{Stage}
use Rattle.unpacked.specs.declared.Stage.TheVariants.{Fetch, Decode, Execute, Write, Commit}

-- there are five
pub number_few : (g : Stage) → number g < 5
number_few Fetch = omega arith
number_few Decode = omega arith
number_few Execute = omega arith
number_few Write = omega arith
number_few Commit = omega arith

-- the code's number of a stage
pub number_is : (g : Stage) → tag_of the_type g ≡ number g
number_is Fetch = refl
number_is Decode = refl
number_is Execute = refl
number_is Write = refl
number_is Commit = refl
