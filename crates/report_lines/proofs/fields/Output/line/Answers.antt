-- `report_lines::fields::Output::line` meets its contract. Assumes nothing.
use Rattle.std.proofs.Common.{◌≡◌, ◌∙◌, ap, sym, arith}
use Rattle.record.proofs.RoundTrips.{reading_accepted, reading_decoded}
use Rattle.report_lines.specs.Report.{block_line, line, refusal_line, summary_line}
use Rattle.report_lines.proofs.RecordLine.{line_accepted, line_refused}
use Rattle.report_lines.proofs.TextsInOrder.{adds_as}
use Rattle.report_lines.proofs.fields.Output.line.Goals as goal

pub summary_of-requires : goal.summary_of-requires
summary_of-requires c =
    let x = c.in-Ok.ensures in
    rw (reading_decoded _ _ x) (reading_accepted _ _ x)

pub returns-in-Ok : goal.returns-in-Ok
unfolding block_line
returns-in-Ok c =
    let e : line c.args.index c.args.s.now ≡ summary_line c.summary_of.result
    = line_accepted c.args.s.now c.args.index _ c.in-Ok.ensures ∙ ap summary_line (sym c.summary_of.ensures) in
    adds_as e (omega arith) c.summary_line.ensures

pub returns-in-Err : goal.returns-in-Err
returns-in-Err c =
    let n = c.number_of in
    let e : line c.args.index c.args.s.now ≡ refusal_line c.args.index n.result
    = line_refused c.args.s.now c.args.index _ c.in-Err.ensures ∙ ap (refusal_line c.args.index) (sym n.ensures) in
    adds_as e (omega arith) c.refusal.ensures
