-- `pairs::row::Row::new` meets its contract: an empty row leads nowhere. Assumes nothing.
use native.Mathlib.Omega.{arith}
use Rattle.lists.proofs.Elements.{get_or_zeros}
use Rattle.pairs.proofs.row.Row.new.Goals as goal

pub invariant_of-result-clause-inside : goal.invariant_of-result-clause-inside
invariant_of-result-clause-inside c = λ k. omega (arith, get_or_zeros 60 k)
