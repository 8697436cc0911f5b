-- The counting lemma: where at each of k times at least m of some windows are open, the windows' lengths add up to at least
-- m * k. Assumes nothing.
use Prim.Native.Nat.{ℕ, zero, suc, ◌+◌, ◌*◌, ◌-◌, ◌≤◌, ◌<◌, min}
use mathlib.Core.Path.{◌≡◌, refl}
use mathlib.Core.Bool.{Bool, true, false}
use mathlib.Core.List.{List, [], ◌∷◌, map}
use native.Mathlib.Omega.{arith}
use native.Mathlib.Numerals.{add-one}
use lib.ListN.{length}
use Rattle.lists.specs.Lists.{In, pick, numbers_where}
use Rattle.lists.specs.inside.Kept.{kept}
use Rattle.lists.specs.Sums.{sum}
use Rattle.lists.proofs.NumbersWhere.{numbers_where_none, length_more}
use Rattle.lists.proofs.Sums.{kept_length, sum_mono}

-- the times below k at which a test holds, and one more
length_suc : (q : ℕ → Bool) (k : ℕ) → length (numbers_where 0 (suc k) q) ≡ length (numbers_where 0 k q) + pick (q k) 1 0
length_suc q k = rw (← add-one k) (length_more q 0 k (omega arith))

-- of the k times from a on, at most l lie in the window of length l at x
window : (k a x l : ℕ) (q : ℕ → Bool) → ((i : ℕ) → i < k → q i ≡ true → (x ≤ a + i) × (a + i < x + l))
    → length (numbers_where 0 k q) ≤ min l (a + k - x)
window zero a x l q h = rw (numbers_where_none q 0) (omega arith)
window (suc k) a x l q h = open_so_far (q k) refl (window k a x l q (λ i g. h i (omega arith)))
  where
    open_so_far : (t : Bool) → q k ≡ t → length (numbers_where 0 k q) ≤ min l (a + k - x) → length (numbers_where 0 (suc k) q) ≤ min l (a + suc k - x)
    open_so_far true e ih = let w = h k (omega arith) e in omega (arith, rw e at (length_suc q k))
    open_so_far false e ih = omega (arith, rw e at (length_suc q k))

module _ (p : ℕ → ℕ → Bool) where
  -- at how many of the first k times the window of u is open
  abbrev times : ℕ → ℕ → ℕ
  times k u = length (numbers_where 0 k (λ i. p i u))

  -- one time more
  one_time : (k : ℕ) (us : List ℕ) → sum (map (times (suc k)) us) ≡ sum (map (times k) us) + length (kept (p k) us)
  unfolding sum kept
  one_time k [] = refl
  one_time k (u ∷ us) = omega (arith, one_time k us, length_suc (λ i. p i u) k, kept_length (p k) u us)

  -- the two sums swapped, one time after the other
  swap : (us : List ℕ) (m k : ℕ) → ((i : ℕ) → i < k → m ≤ length (kept (p i) us)) → m * k ≤ sum (map (times k) us)
  swap us m zero h = omega arith
  swap us m (suc k) h = omega (arith, one_time k us, swap us m k (λ i l. h i (omega arith)), h k (omega arith))

  -- THE COUNTING LEMMA. At each of the k times a, a + 1 .. at least m of the windows us are open; the window of u is open from
  -- x u on, and l u long. Summed over the times, the open windows are m * k at least. Summed over the windows first, each is
  -- open at no more of the times than it is long
  pub area : (us : List ℕ) (m a k : ℕ) (x l : ℕ → ℕ)
      → ((i : ℕ) → i < k → m ≤ length (kept (p i) us))
      → ((i u : ℕ) → i < k → In u us → p i u ≡ true → (x u ≤ a + i) × (a + i < x u + l u))
      → m * k ≤ sum (map l us)
  area us m a k x l h w =
      omega (
        arith,
        swap us m k h,
        sum_mono (times k) l us (λ u g. omega (arith, window k a (x u) (l u) (λ i. p i u) (λ i j. w i u j g))),
      )
