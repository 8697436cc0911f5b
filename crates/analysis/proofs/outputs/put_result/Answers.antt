-- `analysis::outputs::put_result` meets its contract. Assumes nothing.
use mathlib.Core.Path.{◌≡◌, ◌∙◌, sym}
use Rattle.lists.specs.Lists.{put, joined}
use Rattle.analysis.specs.inside.OutputSteps.{times_at}
use Rattle.analysis.proofs.ResultRecord.{put_made}
use Rattle.analysis.proofs.outputs.put_result.Goals as goal

pub returns : goal.returns
returns c =
    let t = c.args.times.now in
    let numbers : c.put_all_times.new.out ≡ put c.put_head.new.out 28 (joined 60 (times_at c.args.s.n c.args.u.now t.early t.late))
    = rw (sym c.from.ensures) c.put_all_times.ensures in
    c.seal.ensures
    ∙ put_made c.args.s c.args.u.now t.early t.late c.args.out.now _ _ _ c.requires c.result_head-head.ensures c.put_head.ensures
    numbers
