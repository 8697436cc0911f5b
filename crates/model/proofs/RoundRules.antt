-- The round rules as the theorems use them: the latest start of an EX as one formula, without the cases of no later and no
-- earlier ones, and what it is for a pair to be apart. Assumes nothing.
use Prim.Native.Nat.{ℕ, ◌+◌, ◌-◌, ◌≤◌, ◌<◌, min, max}
use mathlib.Core.Path.{◌≡◌, refl, ◌∙◌}
use mathlib.Core.Bool.{Bool, true}
use mathlib.Core.List.{List, [], ◌∷◌, map}
use mathlib.Core.Logic.{◌⊎◌, inl, inr}
use native.Mathlib.Omega.{arith}
use lib.Dec.{leb}
use borrow.Author.Tests.{leb-true, le-leb}
use Rattle.lists.specs.Lists.{In, pick, numbers_where}
use Rattle.lists.specs.Sums.{largest, sum, none}
use Rattle.lists.proofs.Bools.{or_cases, or_first, or_second}
use Rattle.lists.proofs.Members.{in_map}
use Rattle.lists.proofs.NumbersWhere.{numbers_where_in}
use Rattle.record.specs.declared.Block.{Block}
use Rattle.record.proofs.AcceptedRanges.{Ranges}
use Rattle.model.specs.Nodes.{EX, nodes, node, highest}
use Rattle.model.specs.Cycles.{start, finish}
use Rattle.model.specs.Rounds.{latest_ex, apart}
use Rattle.model.proofs.Latencies.{lowest_some, lowest_highest}

-- ---- the latest start of an EX
pub b_short : (r : ℕ) (f : ℕ → ℕ) (later : List ℕ) → ((x : ℕ) → In x (map f later) → 1 ≤ x)
    → pick (none later) r (r + largest (map f later) - 1) ≡ r + (max (largest (map f later)) 1 - 1)
unfolding none largest
b_short r f [] h = omega arith
b_short r f (x ∷ xs) h = omega (arith, h (f x) (inl refl))

pub smaller_short : (p : ℕ) (f g : ℕ → ℕ) (earlier : List ℕ)
    → pick (none earlier) p (min (p + sum (map f earlier)) (max p (largest (map g earlier)))) ≡ min (p + sum (map f earlier)) (max p (largest (map g earlier)))
unfolding none sum largest
smaller_short p f g [] = omega arith
smaller_short p f g (e ∷ es) = refl

module _ (b : Block) where
  -- the highest latencies of the EX of these instructions, and their finishes in s
  abbrev pub highs : List ℕ → List ℕ
  highs = map (λ j. highest b (node EX j))

  abbrev pub ends : List ℕ → List ℕ → List ℕ
  ends s = map (λ j. finish (highest b) s (node EX j))

  -- what the later ones may add
  abbrev pub held : List ℕ → ℕ
  held js = max (largest (highs js)) 1 - 1

module _ (b : Block) (A : Ranges b) where
  module _ (rivals : ℕ → ℕ → Bool) (s : List ℕ) (i r : ℕ) where
    abbrev before : List ℕ
    before = numbers_where 0 i (rivals i)

    abbrev after : List ℕ
    after = numbers_where (i + 1) b.n (rivals i)

    some : (x : ℕ) → In x (highs b after) → 1 ≤ x
    some x k =
        let w = in_map (λ j. highest b (node EX j)) x after k in
        let h : node EX w.0 < nodes b = omega (arith, (numbers_where_in (rivals i) (i + 1) b.n w.0 w.1).1) in
        omega (arith, w.2, lowest_some b A (node EX w.0) h, lowest_highest b A (node EX w.0) h)

    -- THE LATEST START OF AN EX, IN ONE FORMULA
    pub ex_short : latest_ex b rivals s i r
        ≡ min (r + held b after + sum (highs b before)) (max (r + held b after) (largest (ends b s before)))
    unfolding latest_ex
    ex_short =
        smaller_short (pick (none after) r (r + largest (highs b after) - 1)) (λ j. highest b (node EX j)) (λ j. finish (highest b) s (node EX j)) before
        ∙ rw (b_short r (λ j. highest b (node EX j)) after some) refl

-- ---- apart
module _ (b : Block) (early late : List ℕ) (i j : ℕ) where
  -- one's latest finish is at most the other's earliest ready
  abbrev pub Clear : Type 0
  Clear = (finish (highest b) late (node EX i) ≤ start early (node EX j)) ⊎ (finish (highest b) late (node EX j) ≤ start early (node EX i))

  abbrev first : Bool
  first = leb (finish (highest b) late (node EX i)) (start early (node EX j))

  abbrev second : Bool
  second = leb (finish (highest b) late (node EX j)) (start early (node EX i))

  pub apart_clear : apart b early late i j ≡ true → Clear
  unfolding apart
  apart_clear t = either (or_cases first second t)
    where
      either : (first ≡ true) ⊎ (second ≡ true) → Clear
      either (inl e) = inl (leb-true _ _ e)
      either (inr e) = inr (leb-true _ _ e)

  pub clear_apart : Clear → apart b early late i j ≡ true
  unfolding apart
  clear_apart (inl h) = or_first first second (le-leb _ _ h)
  clear_apart (inr h) = or_second first second (le-leb _ _ h)
