-- `reader::entry_fault` meets its contract: no entry passed breaks its rule. Assumes nothing.
use mathlib.Core.Path.{sym, ◌∙◌}
use native.Mathlib.Omega.{arith}
use borrow.Author.Count.{below_none, below_more}
use Rattle.lists.proofs.Least.{first_here, first_none}
use borrow.Author.Rules.{rules}
use Rattle.reader.proofs.entry_fault.Goals as goal

pub loop-i-init : goal.loop-i-init
loop-i-init c = below_none _

pub returns-then-not-bytes_ok : goal.returns-then-not-bytes_ok
returns-then-not-bytes_ok c =
    let fault = sym c.bytes_ok.ensures ∙ c.if-not-bytes_ok.true-raw in
    sym (first_here 0 60 _ _ (search rules) (search rules) (λ j _ h. c.loop-i.invariant j h) fault)

pub loop-i-preserved : goal.loop-i-preserved
loop-i-preserved c = below_more _ _ c.loop-i.invariant (sym c.bytes_ok.ensures ∙ c.if-not-bytes_ok.false-raw)

pub returns : goal.returns
returns c = sym (first_none 0 60 _ (search rules) (λ j _ h. c.loop-i.invariant j (omega arith)))
