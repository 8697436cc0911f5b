-- `play::operations::both_answer` meets its contract. Assumes nothing.
use Rattle.std.proofs.Common.{refl, sym, ◌∙◌}
use Rattle.std.proofs.lemmas.Result.{err_from_is_err_and}
use Rattle.play.proofs.Outcomes.{both_refused, room_enough}
use Rattle.unpacked.proofs.BlockInstructions.{few}
use Rattle.play.proofs.operations.both_answer.Goals as goal

pub lent_answer-requires : goal.lent_answer-requires
lent_answer-requires c = few c.args.b (sym c.in_ok-block_answer.ensures.answer)

pub returns-in_err-block_answer : goal.returns-in_err-block_answer
returns-in_err-block_answer c =
    let p = err_from_is_err_and c.from_residual.result c.from_residual.ensures.1 in
    let t = c.in_err-block_answer.ensures in
    rw (p.1, p.2) (both_refused _ _ _ _ refl t.answer, t.whole)

pub returns : goal.returns
returns c =
    let t = c.in_ok-block_answer.ensures in
    (c.lent_answer.ensures ∙ sym (room_enough _ _ (sym t.answer)), t.whole)
