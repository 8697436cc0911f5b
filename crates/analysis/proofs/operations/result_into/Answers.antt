-- `analysis::operations::result_into` meets its contract. Assumes nothing.
use mathlib.Core.Path.{◌∙◌, ap}
use Rattle.analysis.specs.declared.Summary.{Summary}
use Rattle.analysis.specs.inside.OutputSteps.{result_from}
use Rattle.analysis.proofs.ResultRecord.{result_is}
use Rattle.analysis.proofs.operations.result_into.Goals as goal

pub summary_into-s-requires : goal.summary_into-s-requires
summary_into-s-requires c =
    let f = c.unpacked_of-v.ensures in
    record { accepted = c.requires.0; shape = f.0; instructions = f.1 }

pub put_result-requires : goal.put_result-requires
put_result-requires c = c.requires.1

pub returns : goal.returns
returns c =
    let b = c.args.b in
    let u = c.unpacked_of-v.result.instructions in
    let t = c.summary_into-s.new.times in
    let S = c.summary_into-s.ensures in
    c.put_result.ensures
    ∙ ap (λ (s : Summary). result_from s u t.early t.late) S.summary
    ∙ result_is b u t.early t.late c.requires.0 c.unpacked_of-v.ensures.1 S.soonest S.latest
