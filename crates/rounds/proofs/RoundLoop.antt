-- Where the rounds stand: what is left of the model's rounds from round k on. Assumes nothing.
use Prim.Native.Nat.{ℕ, ◌*◌, ◌+◌, ◌-◌, ◌<◌, ◌≤◌, suc, zero}
use mathlib.Core.Path.{◌∙◌, ◌≡◌, ap, refl, subst, sym}
use mathlib.Core.Bool.{Bool, and-true}
use mathlib.Core.List.{List, []}
use native.Mathlib.Omega.{arith}
use native.Mathlib.Numerals.{add-one}
use lib.Dec.{ltb}
use lib.ListN.{get_or, length}
use borrow.Author.Tests.{eq-eqb, ltb-false, ltb-true, ne_eqb}
use Rattle.lists.specs.Sums.{any}
use Rattle.lists.proofs.Bools.{by_test}
use Rattle.lists.proofs.Fronts.{take_most}
use Rattle.lists.proofs.Least.{least_most}
use Rattle.lists.proofs.NumbersWhere.{numbers_where_ext}
use Rattle.record.specs.declared.Block.{Block}
use Rattle.model.specs.Paths.{Pairs, contending, count, has}
use Rattle.model.specs.Rounds.{Windows, apart_count, earliest, new, pair_count, rival, round, round_count, rounds_from, windows}
use Rattle.model.proofs.Contention.{contending_even}
use Rattle.model.proofs.PairSets.{count_ext}
use Rattle.model.proofs.RoundsEnd.{after, pairs_parted, rivals_parted}
use Rattle.unpacked.specs.declared.Instruction.{Instruction}
use Rattle.unpacked.specs.declared.Shape.{Shape}
use Rattle.unpacked.specs.inside.UnpackedBlock.{Unpacked}
use Rattle.pairs.specs.declared.row.Row.{Row}
use Rattle.pairs.specs.inside.PairRows.{Even, Rows, apart_ex, no_row, pair_total, row}
use Rattle.pairs.specs.inside.RowSteps.{RowsKept, first_apart}
use Rattle.pairs.proofs.RowStore.{total_more, total_none}
use Rattle.rounds.specs.inside.BlockTimes.{AfterLast, TimesOf}
use Rattle.rounds.proofs.RowsAfterRound.{left_even, rows_count, rows_left, scan_none, scan_some}

-- round k is to come, and the rows that are left have its rivals
pub record BeforeRound (b : Block) (k : ℕ) (left : List Row) : Type 0 where
  pub known : Pairs
  pub most : ℕ
  pub ahead : windows b ≡ rounds_from (suc most) b (contending b) k known
  pub enough : count b.n (rival (contending b) known) < suc most
  pub rows : Rows b.n (rival (contending b) known) left
  pub even : Even b.n (rival (contending b) known)

module _ (b : Block) where
  first_rival : (i j : ℕ) → rival (contending b) [] i j ≡ has (contending b) i j
  unfolding rival
  first_rival i j = and-true (has (contending b) i j)

  pub rounds_first : (rows : List Row) → Rows b.n (has (contending b)) rows → BeforeRound b 1 rows
  unfolding windows
  rounds_first rows R =
      record {
        known = [];
        most = count b.n (has (contending b));
        ahead = ap (λ (m : ℕ). rounds_from m b (contending b) 1 []) (add-one (count b.n (has (contending b))));
        enough = let e = count_ext b.n (rival (contending b) []) (has (contending b)) (λ i j l m. first_rival i j) in omega (arith, e);
        rows = record {
          listed = λ j h. R.listed j h ∙ numbers_where_ext (has (contending b) j) (rival (contending b) [] j) 0 j (λ i a l. sym (first_rival j i));
        };
        even = record { even = λ i j hi hj. first_rival i j ∙ contending_even b i j hi hj ∙ sym (first_rival j i) };
      }

above : (x : ℕ) → 0 < x → x ≡ suc (x - 1)
above x h = omega arith

less_if_other : (x n : ℕ) → (x ≡ n → ⊥) → x ≤ n → x < n
less_if_other x n f h = by_test (ltb x n) (λ t. ltb-true x n t) (λ t. absurd (f (omega (arith, ltb-false x n t))))

-- the scan ends at n at the latest
pub apart_most : (n : ℕ) (u : List Instruction) (early late : List ℕ) (rows : List Row) → first_apart n u early late rows ≤ n
unfolding first_apart
apart_most n u early late rows = least_most 0 n (λ j. any (apart_ex u early late j) (row rows j)) (omega arith)

-- a round, its times stored, and the scan
module _ (b : Block) (h : Shape) (u : List Instruction) (U : Unpacked b h u) (k : ℕ) (early stored : List ℕ) (rows : List Row) (G : BeforeRound b k rows)
    (soon : TimesOf b (earliest b) early) (times : TimesOf b (round b (contending b) G.known) stored)
    (at : ℕ) (first : at ≡ first_apart b.n u early stored rows) where
  abbrev late : List ℕ
  late = round b (contending b) G.known

  abbrev found : ℕ → ℕ → Bool
  found = new b (contending b) G.known (earliest b) late

  -- no new pair
  pub rounds_last : at ≡ b.n → AfterLast b k stored rows
  unfolding rounds_from round_count
  rounds_last e =
      let none = scan_none b (contending b) G.known late u early stored U.instructions.high soon times G.even rows G.rows at first e in
      let t = eq-eqb (count b.n found) 0 none in
      let w : windows b ≡ record { late = late; rounds = k; known = G.known } = G.ahead ∙ rw t refl in
      record {
        rounds = sym (ap (λ (x : Windows). x.rounds) w);
        times = subst (λ (x : Windows). TimesOf b x.late stored) (sym w) times;
        rows = subst (λ (x : Windows). Rows b.n (rival (contending b) x.known) rows) (sym w) G.rows;
        even = subst (λ (x : Windows). Even b.n (rival (contending b) x.known)) (sym w) G.even;
      }

  -- a new pair: the rows without those that are apart go into the next round, and they have fewer
  pub rounds_next : (at ≡ b.n → ⊥) → (rows' : List Row) → RowsKept at b.n u early stored rows rows'
      → (G' : BeforeRound b (k + 1) rows') × (count b.n (rival (contending b) G'.known) < count b.n (rival (contending b) G.known))
  unfolding rounds_from
  rounds_next more rows' K =
      let l : at < b.n = less_if_other at b.n more (omega (arith, first, apart_most b.n u early stored rows)) in
      let some = scan_some b (contending b) G.known late u early stored U.instructions.high soon times G.even rows G.rows at first l in
      let fewer = rivals_parted b (contending b) G.known (earliest b) late in
      let t = ne_eqb (count b.n found) 0 (λ e. omega arith) in
      let m : G.most ≡ suc (G.most - 1) = above G.most (omega (arith, G.enough)) in
      let w : windows b ≡ rounds_from G.most b (contending b) (k + 1) (after b (contending b) G.known (earliest b) late) = G.ahead ∙ rw t refl in (
        record {
          known = after b (contending b) G.known (earliest b) late;
          most = G.most - 1;
          ahead = w ∙ ap (λ (n : ℕ). rounds_from n b (contending b) (k + 1) (after b (contending b) G.known (earliest b) late)) m;
          enough = omega (arith, G.enough, m);
          rows =
              rows_left b (contending b) G.known late u early stored U.instructions.high soon times G.even rows G.rows at first
              rows' K;
          even = left_even b (contending b) G.known late G.even;
        },
        omega arith,
      )

-- how many pairs the rows have
module _ (b : Block) (k : ℕ) (rows : List Row) (G : BeforeRound b k rows) where
  pub rounds_sum : pair_total b.n rows ≡ count b.n (rival (contending b) G.known)
  rounds_sum = rows_count b.n (rival (contending b) G.known) G.even rows G.rows

-- at most 60 rows of at most 60 numbers
pub few_pairs : (n : ℕ) (rows : List Row) → n ≤ 60 → pair_total n rows ≤ 3600
few_pairs n rows few = omega (arith, most n)
  where
    most : (m : ℕ) → pair_total m rows ≤ 60 * m
    most zero = omega (arith, total_none rows)
    most (suc m) =
        let r : Row = get_or rows m no_row in
        let e : length (row rows m) ≤ r.len = take_most r.len r.numbers in
        let f : r.len ≤ 60 = r.few in
        rw (← add-one m) (omega (arith, total_more rows m, most m))

-- the next round's rows have fewer pairs
pub fewer_pairs : (b : Block) (k : ℕ) (rows rows' : List Row) (G : BeforeRound b k rows)
    → (N : (G' : BeforeRound b (k + 1) rows') × (count b.n (rival (contending b) G'.known) < count b.n (rival (contending b) G.known)))
    → pair_total b.n rows' < pair_total b.n rows
fewer_pairs b k rows rows' G N = omega (arith, N.1, rounds_sum b k rows G, rounds_sum b (k + 1) rows' N.0)

-- the counts of the rows at first and at last
module _ (b : Block) (rows : List Row) where
  pub pairs_sum : Rows b.n (has (contending b)) rows → pair_total b.n rows ≡ pair_count b
  unfolding pair_count
  pairs_sum R = rows_count b.n (has (contending b)) (record { even = contending_even b }) rows R

  pub left_sum : Rows b.n (rival (contending b) (windows b).known) rows → Even b.n (rival (contending b) (windows b).known)
      → apart_count b + pair_total b.n rows ≡ pair_count b
  left_sum R E =
      let t = rows_count b.n (rival (contending b) (windows b).known) E rows R in
      omega (arith, t, pairs_parted b)
