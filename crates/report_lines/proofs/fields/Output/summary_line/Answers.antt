-- `report_lines::fields::Output::summary_line` meets its contract: number, origin and n, and the counts. Assumes nothing.
use native.Mathlib.Omega.{arith}
use Rattle.report_lines.specs.Report.{summary_line}
use Rattle.report_lines.specs.inside.TextSteps.{counts_text}
use Rattle.report_lines.proofs.TextsInOrder.{more_fields}
use Rattle.report_lines.proofs.fields.Output.summary_line.Goals as goal

pub returns : goal.returns
unfolding summary_line counts_text
returns c =
    let n1 = rw c.from.ensures at c.number.ensures in
    let n3 = rw c.from-2.ensures at c.number-2.ensures in
    more_fields _ _ _ 107 c.requires (omega arith) n1
    (λ l. more_fields _ _ _ 105 l (omega arith) c.origin.ensures
    (λ l. more_fields _ _ _ 84 l (omega arith) n3 (λ _. c.counts.ensures)))
