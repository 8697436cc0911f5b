-- `play::refusals::latency_fault` meets its contract: the first latency outside the range of its entry. Assumes nothing.
use mathlib.Core.Path.{◌≡◌}
use mathlib.Core.Bool.{true, false, ◌||◌}
use Prim.Native.Nat.{ℕ}
use native.Mathlib.Omega.{arith}
use lib.Dec.{ltb}
use lib.ListN.{length}
use borrow.Author.Rules.{rules}
use borrow.Author.Tests.{tests}
use Rattle.std.proofs.lemmas.Iterator.{IsFirst-from_position, YieldsList-from_slice, YieldsList-from_zip}
use Rattle.record.specs.declared.Entry.{Entry}
use Rattle.play.proofs.LatencyList.{wrong_walk}
use Rattle.play.proofs.refusals.latency_fault.Goals as goal

pub returns : goal.returns
returns c =
    let long : length c.args.b.entries ≡ 60 = omega arith in
    wrong_walk c.args.b c.args.lat.now (omega arith) (omega arith) _
    (IsFirst-from_position c.position.new.self _ _
    (λ (x : ℕ × Entry). (ltb x.0 x.1.lo || ltb x.1.hi x.0) ≡ true) (λ (x : ℕ × Entry). (ltb x.0 x.1.lo || ltb x.1.hi x.0) ≡ false)
    c.position.ensures.ran (YieldsList-from_zip (YieldsList-from_slice c.args.lat.now cc) (YieldsList-from_slice c.args.b.entries cc))
    (λ x q k. search (rules, tests)) (λ x q k. search (rules, tests)))
