-- "How much each promise has to say": what the functions that put lines promise of their outcome.
use Rattle.std.specs.Prelude.{ℕ, ◌≡◌, List, length}
use Rattle.lists.specs.Lists.{put}

-- "determines result and lent memory completely": putting a text at the start of an output that held o and then holds o', the
-- number is the text's length, and behind the text stands what stood there
pub record PutsText (text o : List ℕ) (r : ℕ) (o' : List ℕ) : Type 0 where
  pub long : r ≡ length text
  pub output : o' ≡ put o 0 text
