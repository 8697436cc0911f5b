-- `report_lines::fields::Output::refusal` meets its contract: four fields, each behind the one before. Assumes nothing.
use native.Mathlib.Omega.{arith}
use Rattle.report_lines.specs.Report.{refusal_line}
use Rattle.report_lines.proofs.TextsInOrder.{last_field, more_fields}
use Rattle.report_lines.proofs.fields.Output.refusal.Goals as goal

pub returns : goal.returns
unfolding refusal_line
returns c =
    let n4 = rw c.from.ensures at c.number-2.ensures in
    more_fields _ _ _ 50 c.requires (omega arith) c.text.ensures
    (λ l. more_fields _ _ _ 29 l (omega arith) c.number.ensures
    (λ l. more_fields _ _ _ 21 l (omega arith) c.text-2.ensures (λ _. last_field _ n4)))
