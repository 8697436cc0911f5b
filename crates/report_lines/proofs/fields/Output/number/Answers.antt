-- `report_lines::fields::Output::number` meets its contract: the digits and the byte behind them. Assumes nothing.
use native.Mathlib.Omega.{arith}
use Rattle.report_lines.proofs.Digits.{spelled}
use Rattle.report_lines.proofs.TextsInOrder.{adds_next}
use borrow.Author.Rules.{rules}
use Rattle.report_lines.proofs.fields.Output.number.Goals as goal

pub returns : goal.returns
returns c =
    let d = c.decimal-k in
    let digits = spelled c.args.x _ _ (search rules) d.ensures.in_bounds d.ensures.len d.ensures.digits in
    let text = rw digits.0 at c.text.ensures in
    adds_next 1 c.requires (omega (arith, digits.1)) text (λ _. c.text-2.ensures)
