-- The largest latency of the later ones of each instruction, raised row by row. Assumes nothing.
use Prim.Native.Nat.{ℕ, ◌+◌, ◌-◌, ◌<◌, ◌≤◌, max}
use mathlib.Core.Path.{◌∙◌, ◌≡◌, ap, refl, sym}
use mathlib.Core.Bool.{◌&&◌, ◌||◌, Bool, false, true}
use mathlib.Core.List.{◌∷◌, List, [], map, map-append}
use native.Mathlib.Omega.{arith}
use lib.Dec.{eqb, ltb}
use lib.ListN.{get_or, length, set, take}
use lib.Seq.{get_or-set_other, get_or-set_same}
use borrow.Author.Tests.{eqb-false, eqb-true, ltb-false, ltb-true}
use Rattle.lists.specs.Lists.{numbers_where, numbers_where_from, pick}
use Rattle.lists.specs.Sums.{any, largest}
use Rattle.lists.proofs.Bools.{by_test, or_second}
use Rattle.lists.proofs.Fronts.{any_more}
use Rattle.lists.proofs.NumbersWhere.{numbers_where_any, numbers_where_more}
use Rattle.lists.proofs.Sums.{largest_append}
use Rattle.pairs.specs.declared.row.Row.{Row}
use Rattle.pairs.specs.inside.PairRows.{Rows}

-- ---- one row: each of its instructions is raised to x
or_false : (t : Bool) → (t || false) ≡ t
or_false true = refl
or_false false = refl

raised : (a x : ℕ) (t : Bool) → max (max a (pick t x 0)) x ≡ max a x
raised a x true = omega arith
raised a x false = omega arith

module _ (x : ℕ) (row old most : List ℕ) (k j : ℕ) where
  pub raise_more : k < length row → j ≡ get_or row k 0 → j < length most
      → ((i : ℕ) → get_or most i 0 ≡ max (get_or old i 0) (pick (any (eqb i) (take k row)) x 0))
      → (y : ℕ) → y ≡ max (get_or most j 0) x
      → (i : ℕ) → get_or (set most j y) i 0 ≡ max (get_or old i 0) (pick (any (eqb i) (take (k + 1) row)) x 0)
  raise_more h e l inv y q i =
      by_test (eqb i j)
      (λ t.
      let s : i ≡ j = eqb-true i j t in
      let a : any (eqb i) (take (k + 1) row) ≡ true
      = any_more row k h (eqb i) ∙ or_second (any (eqb i) (take k row)) _ (ap (eqb i) (sym e) ∙ t) in
      rw (a, s, get_or-set_same most j y 0 l, q, inv j) (raised (get_or old j 0) x (any (eqb j) (take k row))))
      (λ t.
      let a : any (eqb i) (take (k + 1) row) ≡ any (eqb i) (take k row)
      = any_more row k h (eqb i) ∙ ap (λ (u : Bool). any (eqb i) (take k row) || u) (ap (eqb i) (sym e) ∙ t) ∙ or_false (any (eqb i) (take k row)) in
      rw (a, get_or-set_other most j i y 0 (λ u. eqb-false i j t u)) (inv i))

-- ---- the rows in order: after m of them an instruction has the largest of those of its later ones that are below m
module _ (p : ℕ → ℕ → Bool) (f : ℕ → ℕ) (i : ℕ) where
  -- the largest of the later ones below m
  abbrev pub later_of : ℕ → ℕ
  later_of m = largest (map f (numbers_where (i + 1) m (λ j. p j i)))

  pub later_none : (m : ℕ) → m ≤ i + 1 → later_of m ≡ 0
  unfolding numbers_where numbers_where_from largest
  later_none m h = let z : m - (i + 1) ≡ 0 = omega arith in rw z refl

  pub later_more : (m : ℕ) → later_of (m + 1) ≡ max (later_of m) (pick (any (eqb i) (numbers_where 0 m (p m))) (f m) 0)
  unfolding largest
  later_more m =
      rw (numbers_where_any (p m) i m)
      (by_test (ltb i m)
      (λ t.
      let l : i < m = ltb-true i m t in
      let before = numbers_where (i + 1) m (λ j. p j i) in
      rw (
        t,
        numbers_where_more (λ j. p j i) (i + 1) m (omega arith),
        map-append f before (pick (p m i) (m ∷ []) []),
        largest_append (map f before) (map f (pick (p m i) (m ∷ []) [])),
      )
      (last (p m i) (later_of m) (f m)))
      (λ t.
      let l = ltb-false i m t in
      rw (t, later_none m (omega arith), later_none (m + 1) (omega arith)) (omega arith)))
    where
      last : (t : Bool) (a y : ℕ) → max a (largest (map f (pick t (m ∷ []) []))) ≡ max a (pick (true && t) (f m) 0)
      last true a y = omega arith
      last false a y = refl

-- the same number of rows under another name
pub later_same : (n m : ℕ) → n ≡ m → (p : ℕ → ℕ → Bool) (rows : List Row) (f : ℕ → ℕ) (i r : ℕ)
    → (Rows n p rows → i < n → r ≡ later_of p f i n) → Rows m p rows → i < m → r ≡ later_of p f i m
later_same n m e p rows f i r h R l = rw (← e) (h (rw e R) (rw e l))
