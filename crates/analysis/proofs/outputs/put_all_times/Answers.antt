-- `analysis::outputs::put_all_times` meets its contract: the entries passed stand behind the header, and the rest is as it was. Assumes
-- nothing.
use mathlib.Core.Path.{◌∙◌, ◌≡◌, refl}
use Rattle.lists.proofs.JoinedPieces.{pieces_all, pieces_more, pieces_none}
use Rattle.analysis.specs.inside.OutputSteps.{times_at}
use Rattle.analysis.proofs.ResultRecord.{length_times}
use borrow.Author.Rules.{rules}
use Rattle.analysis.proofs.outputs.put_all_times.Goals as goal

pub loop-i-init : goal.loop-i-init
loop-i-init c = (search rules, c.requires, pieces_none 8 28 (times_at _ _ _ _) c.args.out.now)

pub loop-i-preserved : goal.loop-i-preserved
loop-i-preserved c =
    let t = c.loop-i in
    let f = times_at c.args.n c.args.u.now c.args.times.now.early c.args.times.now.late in
    let eight = length_times c.args.n c.args.u.now c.args.times.now.early c.args.times.now.late in (
      search rules,
      search rules,
      c.put_times.ensures ∙ rw t.invariant.2 (pieces_more 8 28 f c.args.out.now eight t.i _ refl (search rules)),
    )

pub returns : goal.returns
returns c =
    let t = c.loop-i in
    let e : t.i ≡ 60 = search rules in
    let f = times_at c.args.n c.args.u.now c.args.times.now.early c.args.times.now.late in
    let eight = length_times c.args.n c.args.u.now c.args.times.now.early c.args.times.now.late in
    rw (t.invariant.2, e) (pieces_all 8 28 f c.args.out.now eight 60)
