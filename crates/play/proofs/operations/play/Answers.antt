-- `play::operations::play` meets its contract: each way out is the first test that failed, or none did. Assumes nothing.
use Rattle.std.proofs.Common.{refl, sym}
use Rattle.std.proofs.lemmas.Result.{err_from_is_err_and}
use Rattle.unpacked.proofs.BlockInstructions.{few}
use Rattle.play.proofs.LatencyList.{listed, accepted_fitting}
use Rattle.play.proofs.Outcomes.{play_refused, play_lent, play_done, lent_fine}
use Rattle.play.proofs.operations.play.Goals as goal

pub lent_answer-requires : goal.lent_answer-requires
lent_answer-requires c = few c.args.b (sym c.in_ok-block_answer.ensures.answer)

pub table_into-requires : goal.table_into-requires
table_into-requires c =
    let y = lent_fine c.args.b c.args.lat.now c.args.out.now (sym c.in_ok-lent_answer.ensures) in
    (sym c.in_ok-block_answer.ensures.answer, accepted_fitting c.args.b c.args.lat.now y.1, listed c.args.b c.args.lat.now y.1, y.0)

pub returns-in_err-block_answer : goal.returns-in_err-block_answer
returns-in_err-block_answer c =
    let p = err_from_is_err_and c.from_residual.result c.from_residual.ensures.1 in
    let t = c.in_err-block_answer.ensures in
    rw (p.1, p.2) (play_refused _ _ _ t.whole _ _ refl t.answer)

pub returns-in_err-lent_answer : goal.returns-in_err-lent_answer
returns-in_err-lent_answer c =
    let p = err_from_is_err_and c.from_residual-in_err-lent_answer.result c.from_residual-in_err-lent_answer.ensures.1 in
    let t = c.in_ok-block_answer.ensures in
    rw (p.1, p.2) (play_lent _ _ _ t.whole _ _ (sym t.answer) refl c.in_err-lent_answer.ensures)

pub returns : goal.returns
returns c =
    let t = c.in_ok-block_answer.ensures in
    play_done c.args.b c.args.lat.now c.args.out.now t.whole (sym t.answer) (sym c.in_ok-lent_answer.ensures) _ c.table_into.ensures
