-- The pairs known in each round: kept from the round before, or found after it. And the windows are those of the last round.
-- Assumes nothing.
use Prim.Native.Nat.{ℕ, zero, suc, ◌+◌, ◌-◌, ◌<◌}
use mathlib.Core.Path.{◌≡◌, refl, sym, ap, ◌∙◌}
use mathlib.Core.Bool.{Bool, true, false, not, ◌&&◌, ◌||◌, false≢true}
use mathlib.Core.Logic.{◌⊎◌}
use native.Mathlib.Omega.{arith}
use lib.Dec.{eqb}
use borrow.Author.Tests.{eqb-false}
use Rattle.lists.proofs.Bools.{by_test, and_left, and_right, and_both, or_cases, or_first, or_second}
use Rattle.record.specs.declared.Block.{Block}
use Rattle.model.specs.Paths.{has, count, contending}
use Rattle.model.specs.Rounds.{earliest, rival, round, apart, new, Windows, rounds_from, windows, pair_count}
use Rattle.model.proofs.PairSets.{has_pairs}
use Rattle.model.proofs.RoundsEnd.{rivals_parted, above, all_rivals}
use Rattle.theorems.specs.RoundByRound.{known_at, late_at, apart_by, apart_at}

-- ---- kept or found
module _ (b : Block) where
  -- a pair that is found after round k
  abbrev pub found : ℕ → ℕ → ℕ → Bool
  found k = new b (contending b) (known_at b k) (earliest b) (late_at b k)

  pub none_first : (i j : ℕ) → has (known_at b 0) i j ≡ true → ⊥
  unfolding known_at
  none_first i j t = false≢true t

  module _ (k i j : ℕ) where
    abbrev contends : Bool
    contends = has (contending b) i j

    abbrev is_known : Bool
    is_known = has (known_at b k) i j

    abbrev is_apart : Bool
    is_apart = apart b (earliest b) (late_at b k) i j

    -- what is found is apart
    pub found_apart : found k i j ≡ true → apart_at b k i j ≡ true
    unfolding apart_by new rival
    found_apart t =
        let c : (contends && not is_known) ≡ true = and_left (contends && not is_known) is_apart t in
        and_both contends is_apart (and_left contends (not is_known) c) (and_right (contends && not is_known) is_apart t)

    -- and what is apart and was not known is found
    pub apart_found : apart_at b k i j ≡ true → is_known ≡ false → found k i j ≡ true
    unfolding apart_by new rival
    apart_found t f =
        and_both (contends && not is_known) is_apart (and_both contends (not is_known) (and_left contends is_apart t) (ap not f))
        (and_right contends is_apart t)

    module _ (hi : i < b.n) (hj : j < b.n) where
      known_next : has (known_at b (suc k)) i j ≡ (is_known || found k i j)
      unfolding known_at late_at
      known_next = has_pairs b.n (λ x y. has (known_at b k) x y || found k x y) i j hi hj

      pub kept_or_found : has (known_at b (suc k)) i j ≡ true → (is_known ≡ true) ⊎ (found k i j ≡ true)
      kept_or_found t = or_cases is_known (found k i j) (sym known_next ∙ t)

      pub kept : is_known ≡ true → has (known_at b (suc k)) i j ≡ true
      kept t = known_next ∙ or_first is_known (found k i j) t

      pub found_known : found k i j ≡ true → has (known_at b (suc k)) i j ≡ true
      found_known t = known_next ∙ or_second is_known (found k i j) t

-- ---- the last round
module _ (b : Block) where
  pub record Last (w : Windows) : Type 0 where
    pub late : w.late ≡ late_at b (w.rounds - 1)
    pub known : w.known ≡ known_at b (w.rounds - 1)

  abbrev rivals : ℕ → ℕ
  rivals k = count b.n (rival (contending b) (known_at b k))

  -- a round that finds pairs leaves fewer rivals
  fewer : (k : ℕ) → eqb (count b.n (found b k)) 0 ≡ false → rivals (suc k) < rivals k
  unfolding known_at late_at
  fewer k t =
      omega (
        arith,
        rivals_parted b (contending b) (known_at b k) (earliest b) (round b (contending b) (known_at b k)),
        above (count b.n (found b k)) (eqb-false (count b.n (found b k)) 0 t),
      )

  last_from : (most k : ℕ) → rivals k < most → Last (rounds_from most b (contending b) (k + 1) (known_at b k))
  unfolding rounds_from known_at late_at
  last_from zero k l = absurd (omega arith)
  last_from (suc most) k l =
      let e : k ≡ k + 1 - 1 = omega arith in
      let f : k + 1 + 1 ≡ suc k + 1 = omega arith in
      by_test (eqb (count b.n (found b k)) 0)
      (λ t. rw t (record { late = rw (← e) refl; known = rw (← e) refl }))
      (λ t. rw (t, f) (last_from most (suc k) (omega (arith, fewer k t))))

  -- THE WINDOWS ARE THOSE OF THE LAST ROUND
  pub last_round : Last (windows b)
  unfolding windows known_at pair_count
  last_round = last_from (count b.n (has (contending b)) + 1) 0 (omega (arith, all_rivals b))
