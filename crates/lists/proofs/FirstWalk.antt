-- A walk over a list that stops at the first element of which a test holds, as `position` makes it. Assumes nothing.
use Rattle.std.proofs.Common.{ℕ, ◌≡◌, ◌<◌, List, length, get_or, Bool, true, false, Option, None, Some, MatchOption, sym, ◌∙◌, arith}
use Rattle.std.specs.List.{AllWithin, HoldsAt}
use Rattle.lists.specs.Lists.{first_at}
use Rattle.lists.proofs.Least.{first_here, first_none}

-- p is the test, by the index of an element
module _ {B : Type 0} (d : B) (all : List B) (test : B → Bool) (p : ℕ → Bool) (same : (i : ℕ) → i < length all → p i ≡ test (get_or all i d)) where
  pub first_walk : (r : Option ℕ)
      → MatchOption r (AllWithin (λ (x : B). test x ≡ false) all 0 (length all))
      (λ i. (i < length all) × HoldsAt (λ (x : B). test x ≡ true) all i × AllWithin (λ (x : B). test x ≡ false) all 0 i)
      → r ≡ first_at 0 (length all) p
  first_walk None h = sym (first_none 0 (length all) p (omega arith) (λ k _ m. same k m ∙ h k d (omega arith) m))
  first_walk (Some i) (m, y, h) =
      sym (first_here 0 (length all) p i (omega arith) m (λ k _ u. same k (omega arith) ∙ h k d (omega arith) u) (same i m ∙ y d))
