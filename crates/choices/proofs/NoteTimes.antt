-- The times of a stage in the notes: what stands so many places back, and one more. Assumes nothing.
use Prim.Native.Nat.{ℕ, ◌+◌, ◌-◌, ◌≤◌, ◌<◌}
use mathlib.Core.Path.{◌≡◌, ◌∙◌}
use mathlib.Core.List.{List}
use native.Mathlib.Omega.{arith}
use lib.ListN.{get_or, set, length-set}
use lib.Seq.{get_or-set_same, get_or-set_other}
use lib.Dec.{leb}
use borrow.Author.Tests.{leb-true, leb-false}
use borrow.Author.Count.{below_more}
use Rattle.lists.specs.Lists.{pick}
use Rattle.lists.proofs.Bools.{by_test}
use Rattle.choices.specs.inside.PlayNotes.{Times}

module _ (y : List ℕ) (m : ℕ) (f : ℕ → ℕ) (L : Times y m f) where
  -- what stands k places before place i, 0 where there is nothing
  pub times_back : (i k p : ℕ) → k ≤ 32 → (k ≤ i → i - k < m) → p ≡ 32 + i - k → get_or y p 0 ≡ pick (leb k i) (f (i - k)) 0
  times_back i k p small h e =
      by_test (leb k i)
      (λ t. let q : p ≡ 32 + (i - k) = omega (arith, leb-true k i t) in rw (t, q) (L.each (i - k) (h (leb-true k i t))))
      (λ t. rw t (L.pad p (omega (arith, leb-false k i t))))

  -- one more
  pub times_more : (v : ℕ) → m < 60 → v ≡ f m → Times (set y (32 + m) v) (m + 1) f
  times_more v n e =
      record {
        long = length-set y (32 + m) v ∙ L.long;
        pad = λ z l. get_or-set_other y (32 + m) z v 0 (λ w. omega arith) ∙ L.pad z l;
        each =
            below_more (λ i. get_or (set y (32 + m) v) (32 + i) 0 ≡ f i) m
            (λ i l. get_or-set_other y (32 + m) (32 + i) v 0 (λ w. omega arith) ∙ L.each i l)
            (get_or-set_same y (32 + m) v 0 (omega (arith, L.long)) ∙ e);
      }
