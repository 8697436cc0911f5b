-- `rounds::times::last_of` meets its contract: the largest of those passed. Assumes nothing.
use mathlib.Core.Path.{◌∙◌, ap, refl, sym}
use native.Mathlib.Omega.{arith}
use Rattle.lists.specs.Sums.{largest}
use Rattle.lists.proofs.Fronts.{largest_more}
use Rattle.pairs.specs.inside.PairRows.{finish_ex}
use borrow.Author.Rules.{rules}
use Rattle.rounds.proofs.times.last_of.Goals as goal

pub loop-i-init : goal.loop-i-init
unfolding largest
loop-i-init c = (search rules, refl, search rules)

pub loop-i-preserved : goal.loop-i-preserved
loop-i-preserved c =
    let t = c.loop-i in
    let finishes = finish_ex c.args.u.now c.args.s.now in
    let e = largest_more c.args.row.now t.i-index (search rules) finishes in
    let f = c.finish_ex.ensures.0 ∙ ap finishes c.from.ensures in
    (search rules, c.max-last.ensures ∙ rw (t.invariant.1, f) (sym e), omega (arith, c.max-last.ensures, c.finish_ex.ensures.1, t.invariant.2))
