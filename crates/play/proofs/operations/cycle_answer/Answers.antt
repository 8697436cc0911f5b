-- `play::operations::cycle_answer` meets its contract: each way out is the first test that failed, or none did. Assumes nothing.
use Rattle.std.proofs.Common.{sym, ◌∙◌}
use Rattle.std.proofs.lemmas.Result.{err_from_is_err_and}
use Rattle.unpacked.proofs.BlockInstructions.{few}
use Rattle.play.proofs.Outcomes.{length_fine, listed_refused, unfit_refused, fit_accepted}
use Rattle.play.proofs.operations.cycle_answer.Goals as goal

pub returns-in_err-both_answer : goal.returns-in_err-both_answer
returns-in_err-both_answer c =
    let p = err_from_is_err_and c.from_residual.result c.from_residual.ensures.1 in
    let t = c.in_err-both_answer.ensures in
    rw (p.1, p.2) (listed_refused _ _ c.args.p t.1 _ t.0, t.1)

pub unfit_state-requires : goal.unfit_state-requires
unfit_state-requires c =
    rw c.from.ensures (few c.args.b (length_fine c.args.b c.args.lat.now (sym c.in_ok-both_answer.ensures.0)).0)

pub returns-then-unfit_state : goal.returns-then-unfit_state
returns-then-unfit_state c =
    let t = c.in_ok-both_answer.ensures in
    (unfit_refused _ _ c.args.p t.1 (sym t.0) (sym (c.unfit_state.ensures c.args.b c.from.ensures) ∙ c.if-unfit_state.true), t.1)

pub returns : goal.returns
returns c =
    let t = c.in_ok-both_answer.ensures in
    (fit_accepted _ _ c.args.p t.1 (sym t.0) (sym (c.unfit_state.ensures c.args.b c.from.ensures) ∙ c.if-unfit_state.false), t.1)
