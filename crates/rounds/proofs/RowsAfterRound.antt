-- The rounds as the code takes them: rows of rivals that shrink. After each round the rows have the rivals of the model, and
-- the scan finds one exactly where the round finds a new pair. Assumes nothing.
use Prim.Native.Nat.{ℕ, ◌<◌}
use mathlib.Core.Path.{◌∙◌, ◌≡◌, ap, refl, sym}
use mathlib.Core.Bool.{◌&&◌, ◌||◌, Bool, false, not, true}
use mathlib.Core.List.{List}
use native.Mathlib.Omega.{arith}
use lib.Dec.{leb, ltb}
use lib.ListN.{get_or, length}
use borrow.Author.Tests.{ltb-false, ltb-true}
use Rattle.lists.specs.Lists.{least, numbers_where, tab}
use Rattle.lists.specs.Sums.{any, sum}
use Rattle.lists.specs.inside.Kept.{kept}
use Rattle.lists.proofs.Bools.{by_test}
use Rattle.lists.proofs.Least.{least_at, least_below}
use Rattle.lists.proofs.NumbersWhere.{numbers_where_ext, numbers_where_kept}
use Rattle.lists.proofs.Sums.{none_kept, quiet_kept, some_kept, sum_none, sum_one}
use Rattle.lists.proofs.TableByIndex.{get_or_tab, is_tab, length_tab}
use Rattle.record.specs.declared.Block.{Block}
use Rattle.model.specs.Cycles.{finish}
use Rattle.model.specs.Nodes.{EX, entry, highest, node}
use Rattle.model.specs.Paths.{Pairs, count, has}
use Rattle.model.specs.Rounds.{apart, earliest, new, rival}
use Rattle.model.proofs.Latencies.{highest_ex}
use Rattle.model.proofs.PairSets.{has_pairs}
use Rattle.model.proofs.RoundsEnd.{after}
use Rattle.unpacked.specs.declared.Instruction.{Instruction}
use Rattle.unpacked.specs.inside.UnpackedBlock.{high_of}
use Rattle.pairs.specs.declared.row.Row.{Row}
use Rattle.pairs.specs.inside.PairRows.{Even, Rows, apart_ex, finish_ex, pair_total, row}
use Rattle.pairs.specs.inside.RowSteps.{RowsKept, first_apart}
use Rattle.rounds.specs.inside.BlockTimes.{TimesOf}

-- ---- how many pairs the rows have
module _ (n : ℕ) (p : ℕ → ℕ → Bool) (even : Even n p) (rows : List Row) (R : Rows n p rows) where
  pub rows_count : pair_total n rows ≡ count n p
  unfolding count
  rows_count =
      ap sum
      (is_tab n _ 0 (tab n (λ j. length (row rows j))) (length_tab n _)
      (λ j h.
      get_or_tab n (λ i. length (row rows i)) j 0 h
      ∙ ap length (R.listed j h ∙ numbers_where_ext (p j) (λ i. p i j) 0 j (λ i a l. even.even j i h (omega arith)))))

-- ---- one round
or_even : (s t : Bool) → (s || t) ≡ (t || s)
or_even true true = refl
or_even true false = refl
or_even false true = refl
or_even false false = refl

stays : (c k a : Bool) → (c && not (k || (c && not k) && a)) ≡ ((c && not k) && not a)
stays true true a = refl
stays true false true = refl
stays true false false = refl
stays false k a = refl

module _ (b : Block) (con known : Pairs) (late : List ℕ) where
  -- the rivals that are left
  left_is : (i j : ℕ) → i < b.n → j < b.n → rival con (after b con known (earliest b) late) i j ≡ (rival con known i j && not (apart b (earliest b) late i j))
  unfolding rival new
  left_is i j hi hj =
      let e = has_pairs b.n (λ x y. has known x y || new b con known (earliest b) late x y) i j hi hj in
      rw e (stays (has con i j) (has known i j) (apart b (earliest b) late i j))

  apart_even : (i j : ℕ) → apart b (earliest b) late i j ≡ apart b (earliest b) late j i
  unfolding apart
  apart_even i j =
      or_even (leb (finish (highest b) late (node EX i)) (get_or (earliest b) (node EX j) 0))
      (leb (finish (highest b) late (node EX j)) (get_or (earliest b) (node EX i) 0))

  pub left_even : Even b.n (rival con known) → Even b.n (rival con (after b con known (earliest b) late))
  left_even E = record { even = λ i j hi hj. left_is i j hi hj ∙ rw (E.even i j hi hj, apart_even i j) (sym (left_is j i hj hi)) }

  module _ (u : List Instruction) (early stored : List ℕ) (hi : (i : ℕ) → i < b.n → high_of u i ≡ (entry b i).hi)
      (soon : TimesOf b (earliest b) early) (last : TimesOf b late stored)
      (E : Even b.n (rival con known)) (rows : List Row) (R : Rows b.n (rival con known) rows) where
    finish_same : (i : ℕ) → i < b.n → finish_ex u stored i ≡ finish (highest b) late (node EX i)
    unfolding finish_ex finish
    finish_same i h = rw (last.at (node EX i) (omega arith), hi i h, highest_ex b i) refl

    apart_same : (i j : ℕ) → i < b.n → j < b.n → apart_ex u early stored i j ≡ apart b (earliest b) late i j
    unfolding apart_ex apart
    apart_same i j l m = rw (finish_same i l, finish_same j m, soon.at (node EX j) (omega arith), soon.at (node EX i) (omega arith)) refl

    -- the new pairs of j's row
    new_row : (j : ℕ) → j < b.n → numbers_where 0 j (λ i. new b con known (earliest b) late i j) ≡ kept (apart_ex u early stored j) (row rows j)
    unfolding new
    new_row j h =
        numbers_where_ext _ (λ i. rival con known j i && apart_ex u early stored j i) 0 j
        (λ i a l. rw (E.even i j (omega arith) h, apart_even i j, apart_same j i h (omega arith)) refl)
        ∙ numbers_where_kept (rival con known j) (apart_ex u early stored j) 0 j
        ∙ ap (kept (apart_ex u early stored j)) (sym (R.listed j h))

    -- j's row has one that is apart from it
    abbrev hit : ℕ → Bool
    hit j = any (apart_ex u early stored j) (row rows j)

    module _ (at : ℕ) (first : at ≡ first_apart b.n u early stored rows) where
      is_least : at ≡ least 0 b.n hit
      unfolding first_apart
      is_least = first

      clear : (j : ℕ) → j < at → j < b.n → hit j ≡ false
      clear j l h = least_below 0 b.n hit j (omega arith) (omega (arith, is_least)) h

      -- the scan finds none: the round finds no new pair
      pub scan_none : at ≡ b.n → count b.n (new b con known (earliest b) late) ≡ 0
      unfolding count
      scan_none e =
          sum_none _ b.n
          (λ j h.
          ap length (new_row j h)
          ∙ none_kept (apart_ex u early stored j) (row rows j) (clear j (omega arith) h))

      -- it finds one: so does the round
      pub scan_some : at < b.n → 0 < count b.n (new b con known (earliest b) late)
      unfolding count
      scan_some l =
          let t : hit at ≡ true = ap hit is_least ∙ least_at 0 b.n hit (omega (arith, is_least)) in
          let k = some_kept (apart_ex u early stored at) (row rows at) t in
          omega (arith, k, ap length (new_row at l), sum_one (λ j. length (numbers_where 0 j (λ i. new b con known (earliest b) late i j))) b.n at l)

      -- the rows without those that are apart have the rivals that are left
      pub rows_left : (rows' : List Row) → RowsKept at b.n u early stored rows rows'
          → Rows b.n (rival con (after b con known (earliest b) late)) rows'
      rows_left rows' K = record { listed = each }
        where
          each : (j : ℕ) → j < b.n → row rows' j ≡ numbers_where 0 j (rival con (after b con known (earliest b) late) j)
          each j h =
              let p : ℕ → Bool = λ i. not (apart_ex u early stored j i) in
              by_test (ltb j at)
              (λ t. let l = ltb-true j at t in K.before j l ∙ sym (quiet_kept (apart_ex u early stored j) (row rows j) (clear j l h)))
              (λ t. K.after j h (ltb-false j at t))
              ∙ ap (kept p) (R.listed j h)
              ∙ sym (numbers_where_kept (rival con known j) p 0 j)
              ∙ numbers_where_ext (λ i. rival con known j i && p i) (rival con (after b con known (earliest b) late) j) 0 j
              (λ i a l. ap (λ (u : Bool). rival con known j i && not u) (apart_same j i h (omega arith)) ∙ sym (left_is j i h (omega arith)))
