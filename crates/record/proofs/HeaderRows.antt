-- A header byte by its row of the table. Assumes nothing.
use Rattle.std.proofs.Common.{◌≡◌, ◌<◌, ◌≤◌, ℕ, Bool, true, false, List, ◌||◌, length, get_or, ltb, Option, MatchOption, refl, ◌∙◌, arith}
use Rattle.std.proofs.Math.ListN.{get_or-map}
use Rattle.std.specs.List.{zip, AllWithin, HoldsAt}
use Rattle.std.proofs.lemmas.Slice.Zip.{get_or-zip, length-zip}
use Rattle.lists.specs.Lists.{first_at}
use Rattle.lists.proofs.FirstWalk.{first_walk}
use Rattle.record.specs.Rules.{header_table, lows, highs, outside}

-- the lowest and the highest value of byte k
abbrev pub row : ℕ → ℕ × ℕ
row k = get_or header_table k (0, 0)

-- byte k is outside its range by its row
pub outside_row : (s : List ℕ) (k : ℕ) → outside s k ≡ (ltb (get_or s k 0) (row k).0 || ltb (row k).1 (get_or s k 0))
unfolding outside lows highs
outside_row s k =
    rw (get_or-map (λ (r : ℕ × ℕ). r.0) header_table k (0, 0), get_or-map (λ (r : ℕ × ℕ). r.1) header_table k (0, 0)) refl

-- the bytes of a header, each beside its row
module _ (s : List ℕ) (long : 28 ≤ length s) where
  abbrev rows : List (ℕ × (ℕ × ℕ))
  rows = zip s header_table

  abbrev out : ℕ × (ℕ × ℕ) → Bool
  out x = ltb x.0 x.1.0 || ltb x.1.1 x.0

  length_rows : length rows ≡ 28
  unfolding header_table
  length_rows = omega (arith, length-zip s header_table)

  -- the walk over them
  pub rows_walk : (r : Option ℕ)
      → MatchOption r (AllWithin (λ (x : ℕ × (ℕ × ℕ)). out x ≡ false) rows 0 (length rows))
      (λ i. (i < length rows) × HoldsAt (λ (x : ℕ × (ℕ × ℕ)). out x ≡ true) rows i × AllWithin (λ (x : ℕ × (ℕ × ℕ)). out x ≡ false) rows 0 i)
      → r ≡ first_at 0 28 (outside s)
  unfolding header_table
  rows_walk r h =
      let at : (i : ℕ) → i < length rows → outside s i ≡ out (get_or rows i (0, (0, 0)))
      = λ i m. outside_row s i ∙ rw (get_or-zip s header_table i (0, (0, 0)) (omega (arith, length_rows)) (omega (arith, length_rows))) refl in
      first_walk (0, (0, 0)) rows out (outside s) at r h ∙ rw length_rows refl
