-- `writer::write` meets its contract. Assumes nothing.
use Rattle.std.proofs.Common.{refl, sym}
use Rattle.std.proofs.lemmas.Result.{err_from_is_err_and}
use Rattle.record.proofs.OutputVerdicts.{write_refused, write_output, write_done}
use Rattle.writer.proofs.write.Goals as goal

pub returns-in_err-tested : goal.returns-in_err-tested
returns-in_err-tested c =
    let p = err_from_is_err_and c.from_residual.result c.from_residual.ensures.1 in
    let t = c.in_err-tested.ensures in
    rw (p.1, p.2) (write_refused _ _ t.whole _ _ refl t.answer)

pub returns-then-out-ne512 : goal.returns-then-out-ne512
returns-then-out-ne512 c =
    let t = c.in_ok-tested.ensures in
    write_output _ _ t.whole (sym t.answer) c.if-out-ne512.true

pub returns : goal.returns
returns c =
    let t = c.in_ok-tested.ensures in
    write_done c.args.b c.args.out.now t.whole (sym t.answer) c.if-out-ne512.false _ c.put_block.ensures
