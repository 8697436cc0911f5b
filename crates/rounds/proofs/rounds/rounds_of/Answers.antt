-- `rounds::rounds::rounds_of` meets its contract: before round k its rows have its rivals. Assumes nothing.
use Prim.Native.Nat.{ℕ, ◌+◌, ◌<◌}
use mathlib.Core.Path.{◌∙◌, ◌≡◌, refl, sym}
use mathlib.Core.List.{List}
use native.Mathlib.Omega.{arith}
use Rattle.record.specs.declared.Block.{Block}
use Rattle.model.specs.Paths.{contending, count}
use Rattle.model.specs.Rounds.{rival, round}
use Rattle.unpacked.specs.declared.unpacked_block.UnpackedBlock.{UnpackedBlock}
use Rattle.unpacked.specs.inside.UnpackedBlock.{Unpacked}
use Rattle.pairs.specs.declared.row.Row.{Row}
use Rattle.pairs.specs.inside.PairRows.{pair_total}
use Rattle.pairs.specs.inside.RowSteps.{RowsKept, first_apart}
use Rattle.rounds.specs.inside.BlockTimes.{AfterLast, TimesOf, RoundTimes, EarliestTimes}
use Rattle.rounds.proofs.RoundLoop.{BeforeRound, apart_most, few_pairs, fewer_pairs, rounds_first, rounds_last, rounds_next}
use Rattle.rounds.proofs.rounds.rounds_of.Goals as goal

pub loop-at-init : goal.loop-at-init
loop-at-init c =
    let v = c.args.v.now in
    (refl, omega (arith, few_pairs v.shape.n c.args.rows.now v.within.few), λ b U. rounds_first b c.args.rows.now (c.requires.2.contend b U))

pub first_apart-at-requires : goal.first_apart-at-requires
first_apart-at-requires c = c.args.v.now.within.few

pub keep_rows-requires : goal.keep_rows-requires
keep_rows-requires c =
    let v = c.args.v.now in
    (omega (arith, c.first_apart-at.ensures, apart_most v.shape.n v.instructions c.loop-at.times.early c.round_into.new.s c.loop-at.rows), v.within.few)

-- the same number under another name
fewer-front : (n m : ℕ) (rows' rows : List Row) → n ≡ m → pair_total m rows' < pair_total m rows → pair_total n rows' < pair_total n rows
fewer-front n m rows' rows e h = rw e h

-- a round and its scan, for a block that may have been unpacked
module _ (v : UnpackedBlock) (early late : List ℕ) (rows : List Row) (k at : ℕ) (E : EarliestTimes v early) (T : RoundTimes v rows late)
    (F : at ≡ first_apart v.shape.n v.instructions early late rows)
    (b : Block) (U : Unpacked b v.shape v.instructions) (G : BeforeRound b k rows) where
  times : TimesOf b (round b (contending b) G.known) late
  times = T.times b (contending b) G.known U G.rows G.even

  first : at ≡ first_apart b.n v.instructions early late rows
  first = rw (← U.shape.n) F

  over : at ≡ v.shape.n → AfterLast b k late rows
  over e = rounds_last b v.shape v.instructions U k early late rows G (E.times b U) times at first (e ∙ U.shape.n)

  module _ (more : at ≡ v.shape.n → ⊥) (rows' : List Row) (K : RowsKept at v.shape.n v.instructions early late rows rows') where
    next : (H : BeforeRound b (k + 1) rows') × (count b.n (rival (contending b) H.known) < count b.n (rival (contending b) G.known))
    next =
        rounds_next b v.shape v.instructions U k early late rows G (E.times b U) times at first (λ e. more (e ∙ sym U.shape.n)) rows'
        (rw (← U.shape.n) K)

    fewer : pair_total v.shape.n rows' < pair_total v.shape.n rows
    fewer = fewer-front v.shape.n b.n rows' rows U.shape.n (fewer_pairs b k rows rows' G next)

pub overflow_add-k : goal.overflow_add-k
overflow_add-k c = record { fits = omega (arith, c.loop-at.invariant.1) }

pub loop-at-smaller : goal.loop-at-smaller
loop-at-smaller c = omega (arith, c.loop-at.invariant.1)

pub loop-at-preserved : goal.loop-at-preserved
loop-at-preserved c =
    let v = c.args.v.now in
    let t = c.loop-at in
    let some = c.requires.0 in
    let late = c.round_into.new.s in
    let T = c.round_into.ensures in
    let K = c.keep_rows.ensures in
    let F = c.first_apart-at.ensures in
    let E : EarliestTimes v t.times.early = rw t.invariant.0 c.requires.1 in
    let more : c.first_apart-at.result ≡ v.shape.n → ⊥ = omega arith in (
      t.invariant.0,
      omega (arith, t.invariant.1, fewer v t.times.early late t.rows t.k _ E T F some.b some.unpacked (t.invariant.2 some.b some.unpacked) more _ K),
      λ b U. (next v t.times.early late t.rows t.k _ E T F b U (t.invariant.2 b U) more _ K).0,
    )

pub returns : goal.returns
returns c =
    let v = c.args.v.now in
    let t = c.loop-at in
    let late = c.round_into.new.s in
    let T = c.round_into.ensures in
    let E : EarliestTimes v t.times.early = rw t.invariant.0 c.requires.1 in
    let last : c.first_apart-at.result ≡ v.shape.n = omega arith in
    record {
      rounds = record {
        long = T.long;
        last = λ b U. over v t.times.early late t.rows t.k _ E T c.first_apart-at.ensures b U (t.invariant.2 b U) last;
      };
      kept = t.invariant.0;
    }
