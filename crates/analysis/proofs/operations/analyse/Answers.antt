-- `analysis::operations::analyse` meets its contract. Assumes nothing.
use Rattle.std.proofs.Common.{refl, sym}
use Rattle.std.proofs.lemmas.Result.{err_from_is_err_and}
use Rattle.analysis.proofs.Outcomes.{analyse_done, analyse_output, analyse_refused}
use Rattle.analysis.proofs.operations.analyse.Goals as goal

pub returns-in_err-block_answer : goal.returns-in_err-block_answer
returns-in_err-block_answer c =
    let p = err_from_is_err_and c.from_residual.result c.from_residual.ensures.1 in
    let t = c.in_err-block_answer.ensures in
    rw (p.1, p.2) (analyse_refused _ _ t.whole _ _ refl t.answer)

pub returns-then-out-ne512 : goal.returns-then-out-ne512
returns-then-out-ne512 c =
    let t = c.in_ok-block_answer.ensures in
    analyse_output _ _ t.whole (sym t.answer) c.if-out-ne512.true

pub returns : goal.returns
returns c =
    let t = c.in_ok-block_answer.ensures in
    analyse_done c.args.b c.args.out.now t.whole (sym t.answer) c.if-out-ne512.false _ c.result_into.ensures
