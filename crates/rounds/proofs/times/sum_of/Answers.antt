-- `rounds::times::sum_of` meets its contract: the sum of those passed, none above 255. Assumes nothing.
use mathlib.Core.Path.{◌∙◌, ◌≡◌, ap, refl}
use native.Mathlib.Omega.{arith}
use lib.ListN.{get_or}
use Rattle.lists.specs.Sums.{sum}
use Rattle.lists.proofs.Fronts.{sum_map_more}
use Rattle.unpacked.specs.inside.UnpackedBlock.{high_of}
use borrow.Author.Rules.{rules}
use Rattle.rounds.proofs.times.sum_of.Goals as goal

pub loop-i-init : goal.loop-i-init
unfolding sum
loop-i-init c = (search rules, refl, search rules)

pub loop-i-preserved : goal.loop-i-preserved
loop-i-preserved c =
    let t = c.loop-i in
    let e = sum_map_more c.args.row.now t.i-index (search rules) (high_of c.args.u.now) in
    let s : c.from-sum.result ≡ high_of c.args.u.now (get_or c.args.row.now t.i-index 0)
    = c.from-sum.ensures ∙ ap (high_of c.args.u.now) c.from.ensures in
    (search rules, omega (arith, e, s, t.invariant.1), search rules)
