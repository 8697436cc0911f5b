-- `record::rules::entry_ok` meets its contract. Assumes nothing.
use mathlib.Core.Path.{◌∙◌}
use native.Mathlib.Omega.{arith}
use Rattle.record.proofs.EntryRules.{wrong_used, wrong_unused}
use Rattle.record.proofs.rules.entry_ok.Goals as goal

pub returns-then-used : goal.returns-then-used
returns-then-used c =
    let x = c.args in
    c.used_ok.ensures ∙ wrong_used x.n x.i x.e (omega (arith, c.if-used.true, c.from.ensures))

pub returns-else-used : goal.returns-else-used
returns-else-used c =
    let x = c.args in
    c.unused_ok.ensures ∙ wrong_unused x.n x.i x.e (omega (arith, c.if-used.false, c.from.ensures))
