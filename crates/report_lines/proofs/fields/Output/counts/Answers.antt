-- `report_lines::fields::Output::counts` meets its contract: four numbers, each behind the one before. Assumes nothing.
use native.Mathlib.Omega.{arith}
use Rattle.report_lines.specs.inside.TextSteps.{counts_text}
use Rattle.report_lines.proofs.TextsInOrder.{last_field, more_fields}
use Rattle.report_lines.proofs.fields.Output.counts.Goals as goal

pub returns : goal.returns
unfolding counts_text
returns c =
    let n1 = rw c.from.ensures at c.number.ensures in
    let n2 = rw c.from-2.ensures at c.number-2.ensures in
    let n3 = rw c.from-3.ensures at c.number-3.ensures in
    let n4 = rw c.from-4.ensures at c.number-4.ensures in
    more_fields _ _ _ 63 c.requires (omega arith) n1
    (λ l. more_fields _ _ _ 42 l (omega arith) n2
    (λ l. more_fields _ _ _ 21 l (omega arith) n3 (λ _. last_field _ n4)))
