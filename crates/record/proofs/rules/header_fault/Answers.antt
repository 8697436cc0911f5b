-- `record::rules::header_fault` meets its contract: the walk over the bytes and their rows stops at the first byte outside its
-- range. Assumes nothing.
use Rattle.std.proofs.Common.{rules, ℕ, true, false, ◌≡◌, ◌||◌, ltb}
use borrow.Author.Tests.{tests}
use Rattle.std.proofs.lemmas.Iterator.{IsFirst-from_position, YieldsList-from_slice, YieldsList-from_zip}
use Rattle.record.specs.Rules.{header_table}
use Rattle.record.proofs.HeaderRows.{rows_walk}
use Rattle.record.proofs.rules.header_fault.Goals as goal

pub returns : goal.returns
unfolding header_table
returns c =
    rows_walk c.args.s.now c.requires _
    (IsFirst-from_position c.position.new.self _ _
    (λ (x : ℕ × (ℕ × ℕ)). (ltb x.0 x.1.0 || ltb x.1.1 x.0) ≡ true) (λ (x : ℕ × (ℕ × ℕ)). (ltb x.0 x.1.0 || ltb x.1.1 x.0) ≡ false)
    c.position.ensures.ran (YieldsList-from_zip (YieldsList-from_slice c.args.s.now cc) (YieldsList-from_slice header_table cc))
    (λ x q k. search (rules, tests)) (λ x q k. search (rules, tests)))
