-- A row walked from its front: those kept moved to the front. Assumes nothing.
use Prim.Native.Nat.{ℕ, ◌+◌, ◌<◌, ◌≤◌}
use mathlib.Core.Path.{◌∙◌, ◌≡◌, ap, refl, sym}
use mathlib.Core.Bool.{Bool}
use mathlib.Core.List.{◌++◌, ◌∷◌, List, [], append-nil}
use native.Mathlib.Omega.{arith}
use native.Mathlib.Nat.{add-zero}
use lib.ListN.{drop, get_or, length, length-set, set, take}
use lib.Seq.{drop-drop, drop-set-lt, get_or-drop, get_or-set_same, take-set-le}
use Rattle.lists.specs.Lists.{pick}
use Rattle.lists.specs.inside.Kept.{kept}
use Rattle.lists.proofs.Bools.{by_test}
use Rattle.lists.proofs.Fronts.{kept_more}
use Rattle.lists.proofs.JoinedPieces.{take_snoc}

module _ (p : ℕ → Bool) (old row : List ℕ) (k len : ℕ) (h : k < length old) (same : length row ≡ length old) (l : len ≤ k)
    (rest : drop k row ≡ drop k old) where
  pub next_is : get_or row k 0 ≡ get_or old k 0
  next_is =
      let a = get_or-drop k row 0 0 in
      let b = get_or-drop k old 0 0 in
      rw add-zero at (sym a ∙ ap (λ (t : List ℕ). get_or t 0 0) rest ∙ b)

  pub rest_more : (x : ℕ) → drop (k + 1) (set row len x) ≡ drop (k + 1) old
  rest_more x =
      drop-set-lt (k + 1) row len x (omega arith)
      ∙ sym (drop-drop 1 k row) ∙ ap (drop 1) rest ∙ drop-drop 1 k old

  front : (x : ℕ) → take (len + 1) (set row len x) ≡ take len row ++ (x ∷ [])
  front x =
      take_snoc (set row len x) len 0 (rw length-set (omega arith))
      ∙ rw (take-set-le len row len x (omega arith), get_or-set_same row len x 0 (omega arith)) refl

  pub keep_more : (x m : ℕ) → x ≡ get_or row k 0 → m ≡ pick (p x) 1 0 → take len row ≡ kept p (take k old)
      → take (len + m) (set row len x) ≡ kept p (take (k + 1) old)
  keep_more x m e q f =
      let s : x ≡ get_or old k 0 = e ∙ next_is in
      let a = kept_more old k h p in
      by_test (p x)
      (λ t.
      let u : m ≡ 1 = q ∙ rw t refl in
      rw (u, a, ← s, t, front x, f) refl)
      (λ t.
      let u : m ≡ 0 = q ∙ rw t refl in
      rw (u, a, ← s, t, add-zero, append-nil, take-set-le len row len x (omega arith)) f)
