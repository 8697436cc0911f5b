-- `analysis::operations::windows` meets its contract. Assumes nothing.
use Rattle.std.proofs.Common.{◌<◌, ◌≤◌, length, refl, sym, arith}
use Rattle.std.proofs.lemmas.Result.{err_from_is_err_and}
use Rattle.model.specs.Rounds.{window_numbers}
use Rattle.analysis.proofs.Outcomes.{windows_done, windows_output, windows_refused}
use Rattle.analysis.proofs.operations.windows.Goals as goal

pub returns-in_err-block_answer : goal.returns-in_err-block_answer
returns-in_err-block_answer c =
    let p = err_from_is_err_and c.from_residual.result c.from_residual.ensures.1 in
    let t = c.in_err-block_answer.ensures in
    rw (p.1, p.2) (windows_refused _ _ t.whole _ _ refl t.answer)

pub returns-then-out-need : goal.returns-then-out-need
returns-then-out-need c =
    let t = c.in_ok-block_answer.ensures in
    let short : length c.args.out.now < window_numbers c.args.b = omega (arith, c.if-out-need.true, c.from-need.ensures) in
    windows_output c.args.b c.args.out.now t.whole (sym t.answer) short

pub table_into-requires : goal.table_into-requires
table_into-requires c =
    let room : window_numbers c.args.b ≤ length c.args.out.now = omega (arith, c.if-out-need.false, c.from-need.ensures) in
    (sym c.in_ok-block_answer.ensures.answer, room)

pub returns : goal.returns
returns c =
    let t = c.in_ok-block_answer.ensures in
    let room : window_numbers c.args.b ≤ length c.args.out.now = omega (arith, c.if-out-need.false, c.from-need.ensures) in
    windows_done c.args.b c.args.out.now t.whole (sym t.answer) room _ c.table_into.ensures
