-- The four counts of a block have 16 bits each, so its result record carries them whole. Assumes nothing.
use Prim.Native.Nat.{ℕ, ◌%◌, ◌+◌, ◌/◌, ◌<◌, ◌≤◌}
use mathlib.Core.Path.{◌≡◌, refl}
use mathlib.Core.Bool.{Bool}
use mathlib.Core.List.{List}
use native.Mathlib.Omega.{arith}
use lib.ListN.{get_or, length}
use Rattle.lists.specs.Bytes.{bytes, little}
use Rattle.lists.specs.Lists.{In, numbers_where, tab}
use Rattle.lists.proofs.NumbersWhere.{length_most}
use Rattle.lists.proofs.Sums.{sum_most}
use Rattle.lists.proofs.TableByIndex.{in_tab, length_tab}
use Rattle.record.specs.Promises.{Whole}
use Rattle.record.specs.Refusals.{block_verdict}
use Rattle.record.specs.declared.Block.{Block}
use Rattle.record.proofs.AcceptedRanges.{ranges}
use Rattle.model.specs.Paths.{contending, count, has}
use Rattle.model.specs.Rounds.{apart_count, bound, pair_count, round_count, windows}
use Rattle.model.proofs.Limits.{bound_limit}
use Rattle.model.proofs.RoundsEnd.{rounds_most}
use Rattle.analysis.specs.Result.{head_of, result_record, result_body, result_head, summary_of}

-- ---- how many pairs there are at most
count_most : (n : ℕ) (p : ℕ → ℕ → Bool) → n ≤ 60 → count n p ≤ 3600
unfolding count
count_most n p l = omega (arith, sum_most 60 (tab n before) few, length_tab n before)
  where
    -- how many stand before j
    before : ℕ → ℕ
    before j = length (numbers_where 0 j (λ i. p i j))

    few : (x : ℕ) → In x (tab n before) → x ≤ 60
    few x h = let r = in_tab n before x h in omega (arith, r.1, r.2, length_most (λ i. p i r.0) 0 r.0)

-- ---- what the result record carries
two_bytes : (s : List ℕ) (i x : ℕ) → x < 65536 → get_or s i 0 ≡ x % 256 → get_or s (i + 1) 0 ≡ x / 256 % 256 → little 2 s i ≡ x
unfolding little
two_bytes s i x h low high = omega arith

module _ (b : Block) (whole : Whole b) (accepted : block_verdict b ≡ (0, 0)) where
  pairs_few : pair_count b < 65536
  unfolding pair_count
  pairs_few = omega (arith, count_most b.n (has (contending b)) (ranges b accepted).n.1)

  apart_few : apart_count b < 65536
  unfolding apart_count
  apart_few = omega (arith, count_most b.n (has (windows b).known) (ranges b accepted).n.1)

  rounds_few : round_count b < 65536
  unfolding pair_count
  rounds_few = omega (arith, rounds_most b, count_most b.n (has (contending b)) (ranges b accepted).n.1)

  bound_few : bound b < 65536
  bound_few = let A = ranges b accepted in omega (arith, bound_limit b A (λ i. (whole.each i).hi), A.n.1)

  pub counts_carried : (little 2 (result_record b) 6 ≡ bound b) × (little 2 (result_record b) 12 ≡ round_count b)
      × (little 2 (result_record b) 14 ≡ pair_count b) × (little 2 (result_record b) 16 ≡ apart_count b)
  unfolding result_record result_body result_head head_of summary_of bytes
  counts_carried = (
    two_bytes (result_record b) 6 (bound b) bound_few refl refl,
    two_bytes (result_record b) 12 (round_count b) rounds_few refl refl,
    two_bytes (result_record b) 14 (pair_count b) pairs_few refl refl,
    two_bytes (result_record b) 16 (apart_count b) apart_few refl refl,
  )
