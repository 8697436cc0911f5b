-- `play::refusals::unfit_state` meets its contract: no start passed is unfit. Assumes nothing.
use mathlib.Core.Path.{◌≡◌, sym}
use mathlib.Core.Bool.{true, false}
use Prim.Native.Nat.{ℕ, ◌*◌}
use native.Mathlib.Omega.{arith}
use borrow.Author.Rules.{rules}
use borrow.Author.Tests.{tests}
use Rattle.std.proofs.lemmas.Iterator.{cases_from_any, YieldsList-from_slice}
use Rattle.std.proofs.lemmas.Iterator.Consumers.{YieldsList-from_enumerate}
use Rattle.play.specs.Promises.{state_of}
use Rattle.play.specs.inside.StartTest.{unfit_at}
use Rattle.play.proofs.UnfitStates.{unfit_after, unfit_walk}
use Rattle.play.proofs.refusals.unfit_state.Goals as goal

pub returns-then-p-gt-LAST_CYCLE : goal.returns-then-p-gt-LAST_CYCLE
returns-then-p-gt-LAST_CYCLE c b e = sym (unfit_after b (state_of c.args.p) (omega arith))

pub returns : goal.returns
returns c b e =
    unfit_walk b (state_of c.args.p) (search rules) (5 * c.args.n) (omega arith) _ (omega arith) (omega arith)
    (cases_from_any _ _ _ (λ (x : ℕ × ℕ). unfit_at c.args.p.t (5 * c.args.n) x.0 x.1 ≡ true) (λ (x : ℕ × ℕ). unfit_at c.args.p.t (5 * c.args.n) x.0 x.1 ≡ false)
    c.any.ensures.ran (YieldsList-from_enumerate (YieldsList-from_slice c.args.p.starts cc) cc)
    (λ x q k. search (rules, tests)) (λ x q k. search (rules, tests)))
