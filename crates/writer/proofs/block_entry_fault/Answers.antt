-- `writer::block_entry_fault` meets its contract: no entry passed breaks its rule. Assumes nothing.
use mathlib.Core.Path.{sym, ◌∙◌}
use native.Mathlib.Omega.{arith}
use borrow.Author.Count.{below_none, below_more}
use Rattle.record.specs.Rules.{broken}
use Rattle.record.specs.Layout.{encoded}
use Rattle.lists.proofs.Least.{first_here, first_none}
use Rattle.record.proofs.RecordBytes.{broken_value}
use borrow.Author.Rules.{rules}
use Rattle.writer.proofs.block_entry_fault.Goals as goal

pub loop-i-init : goal.loop-i-init
loop-i-init c = below_none _

pub returns-then-not-entry_ok : goal.returns-then-not-entry_ok
returns-then-not-entry_ok c =
    let t = c.loop-i in
    let b = c.args.b in
    let e = c.entry_ok.ensures ∙ broken_value b t.i (search rules) in
    sym (first_here 0 60 (broken (encoded b)) t.i (search rules) (search rules) (λ j _ h. t.invariant j h) (sym e ∙ c.if-not-entry_ok.true-raw))

pub loop-i-preserved : goal.loop-i-preserved
loop-i-preserved c =
    let t = c.loop-i in
    let b = c.args.b in
    let e = c.entry_ok.ensures ∙ broken_value b t.i (search rules) in
    below_more _ t.i t.invariant (sym e ∙ c.if-not-entry_ok.false-raw)

pub returns : goal.returns
returns c = sym (first_none 0 60 _ (search rules) (λ j _ h. c.loop-i.invariant j (omega arith)))
