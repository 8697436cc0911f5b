-- `rounds::rounds::refine` meets its contract: the rows' pairs are counted before and after the rounds. Assumes nothing.
use Prim.Native.Nat.{ℕ, ◌+◌}
use mathlib.Core.Path.{◌∙◌, ◌≡◌, ap}
use native.Mathlib.Omega.{arith}
use Rattle.record.specs.declared.Block.{Block}
use Rattle.model.specs.Rounds.{apart_count, pair_count}
use Rattle.model.proofs.RoundsEnd.{rounds_most}
use Rattle.unpacked.specs.inside.UnpackedBlock.{Unpacked}
use Rattle.pairs.specs.inside.PairRows.{pair_total}
use Rattle.rounds.proofs.RoundLoop.{left_sum, pairs_sum}
use Rattle.rounds.proofs.rounds.refine.Goals as goal

pub pairs_of-pairs-requires : goal.pairs_of-pairs-requires
pairs_of-pairs-requires c = c.args.v.now.within.few

pub rounds_of-rounds-requires : goal.rounds_of-rounds-requires
rounds_of-rounds-requires c = (c.requires.0, c.requires.1, c.contenders_into.ensures)

pub pairs_of-left-requires : goal.pairs_of-left-requires
pairs_of-left-requires c = c.args.v.now.within.few

pub returns : goal.returns
returns c =
    let v = c.args.v.now in
    let some = c.requires.0 in
    let before = c.pairs_of-pairs in
    let over = c.rounds_of-rounds.ensures.rounds in
    let after = c.pairs_of-left in
    let most = before.ensures.1 in
    let pairs : (b : Block) → Unpacked b v.shape v.instructions → before.result ≡ pair_count b
    = λ b U.
    before.ensures.0
    ∙ ap (λ (m : ℕ). pair_total m c.contenders_into.new.rows) U.shape.n
    ∙ pairs_sum b c.contenders_into.new.rows (c.contenders_into.ensures.contend b U) in
    let left : (b : Block) → Unpacked b v.shape v.instructions → apart_count b + after.result ≡ pair_count b
    = λ b U.
    let last = over.last b U in
    ap (λ (m : ℕ). apart_count b + m) (after.ensures.0 ∙ ap (λ (m : ℕ). pair_total m c.rounds_of-rounds.new.rows) U.shape.n)
    ∙ left_sum b c.rounds_of-rounds.new.rows last.rows last.even in
    record {
      refined = record {
        long = over.long;
        rounds = omega (arith, (over.last some.b some.unpacked).rounds, rounds_most some.b, pairs some.b some.unpacked, most);
        pairs = most;
        apart = omega (arith, most, c.saturating_sub.ensures);
        counts = λ b U. record {
          rounds = (over.last b U).rounds;
          pairs = pairs b U;
          apart = omega (arith, c.saturating_sub.ensures, pairs b U, left b U);
        };
        times = λ b U. (over.last b U).times;
      };
      kept = c.rounds_of-rounds.ensures.kept;
    }
