-- Those of a list's numbers that are kept. Only promises of inside functions use it.
use Rattle.std.specs.Prelude.{ℕ, Bool, List, [], ◌∷◌}
use Rattle.lists.specs.Lists.{pick}

-- those of a list's numbers at which p holds
unfoldable pub kept : (ℕ → Bool) → List ℕ → List ℕ
kept p [] = []
kept p (x ∷ xs) = let rest = kept p xs in pick (p x) (x ∷ rest) rest
