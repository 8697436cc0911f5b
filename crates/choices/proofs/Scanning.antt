-- The one that can start first, of the instructions looked at one by one. Assumes nothing.
use Prim.Native.Nat.{ℕ, ◌+◌, ◌≤◌, ◌<◌, min}
use mathlib.Core.Path.{◌≡◌, refl, ◌∙◌}
use mathlib.Core.List.{List}
use native.Mathlib.Omega.{arith}
use lib.ListN.{get_or}
use lib.Dec.{ltb}
use borrow.Author.Tests.{ltb-true, ltb-false}
use Rattle.lists.specs.Lists.{pick}
use Rattle.lists.proofs.Bools.{by_test}
use Rattle.choices.specs.declared.Choice.{Choice}
use Rattle.choices.specs.declared.Row.{Row}
use Rattle.choices.specs.declared.PlayNotes.{PlayNotes}
use Rattle.choices.specs.inside.NoteSteps.{never, ready_of, key_of, Rising, Among, First}

module _ (rows : List Row) (x : PlayNotes) where
  -- v is the first of those that can start first, of the instructions from c on and below j
  pub record Best (c j : ℕ) (v : Choice) : Type 0 where
    pub among : Among c j rows x v
    pub first : First c j rows x v

  pub best_one : (c r : ℕ) → r ≤ never → r ≡ key_of rows x c → Best c (c + 1) (record { at = c; start = r })
  best_one c r m e =
      record {
        among = record { from = omega arith; below = omega arith; most = m; start = e };
        first = λ i l h. let q : i ≡ c = omega arith in (rw q (omega arith), λ o. absurd (omega arith));
      }

  -- ---- one more instruction, which can start from k on
  module _ (c j k : ℕ) (v w : Choice) (B : Best c j v) (e : k ≡ key_of rows x j) where
    best_new : k < v.start → w.at ≡ j → w.start ≡ k → Best c (j + 1) w
    best_new less at start =
        let A = B.among in
        record {
          among = record { from = omega (arith, A.from, A.below); below = omega arith; most = omega (arith, A.most); start = rw (at, start) e };
          first =
              λ i l h. by_test (ltb i j)
              (λ t. let b = (B.first i l (ltb-true i j t)).0 in (omega arith, λ o. omega arith))
              (λ t. let q : i ≡ j = omega (arith, ltb-false i j t) in (rw q (omega arith), λ o. absurd (omega arith)));
        }

    best_kept : v.start ≤ k → w.at ≡ v.at → w.start ≡ v.start → Best c (j + 1) w
    best_kept less at start =
        let A = B.among in
        record {
          among = record { from = omega (arith, A.from); below = omega (arith, A.below); most = omega (arith, A.most); start = rw (at, start) A.start };
          first =
              λ i l h. by_test (ltb i j)
              (λ t. let b = B.first i l (ltb-true i j t) in (omega (arith, b.0), λ o. omega (arith, b.1 (omega arith))))
              (λ t. let q : i ≡ j = omega (arith, ltb-false i j t) in (rw q (omega arith), λ o. absurd (omega (arith, A.below))));
        }

    pub best_more : w.at ≡ pick (ltb k v.start) j v.at → w.start ≡ min k v.start → Best c (j + 1) w
    best_more at start =
        by_test (ltb k v.start)
        (λ t. let less = ltb-true k v.start t in best_new less (at ∙ rw t refl) (omega arith))
        (λ t. let less = ltb-false k v.start t in best_kept less (at ∙ rw t refl) (omega arith))

  -- ---- none further on can start before it is decoded
  key_over : (m i j : ℕ) → Rising m x → j ≤ i → i < m → get_or x.decoded (32 + j) 0 ≤ key_of rows x i
  unfolding key_of ready_of
  key_over m i j R l h = omega (arith, R.each j i l h)

  pub best_all : (c j m : ℕ) (v : Choice) → Best c j v → Rising m x → v.start ≤ get_or x.decoded (32 + j) 0 → First c m rows x v
  best_all c j m v B R s i l h =
      by_test (ltb i j) (λ t. B.first i l (ltb-true i j t))
      (λ t.
      let past = ltb-false i j t in
      (omega (arith, key_over m i j R past h), λ o. absurd (omega (arith, B.among.below))))
