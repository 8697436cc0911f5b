-- `analysis::operations::summary_into` meets its contract. Assumes nothing.
use mathlib.Core.Path.{◌∙◌}
use native.Mathlib.Omega.{arith}
use Rattle.record.proofs.AcceptedRanges.{ranges}
use Rattle.analysis.proofs.ResultRecord.{bound_small, summary_is}
use Rattle.analysis.proofs.operations.summary_into.Goals as goal

pub times_into-counts-requires : goal.times_into-counts-requires
times_into-counts-requires c = record { b = c.args.b; unpacked = c.requires }

pub bound_of-bound-requires : goal.bound_of-bound-requires
bound_of-bound-requires c =
    let b = c.args.b in
    let U = c.requires in
    let v = c.args.v.now in
    let r = c.times_into-counts.ensures in
    let t = c.times_into-counts.new.times in
    let A = ranges b U.accepted in
    let n = U.shape.n in
    (omega (arith, n, A.n.0), omega (arith, n, A.n.1), bound_small b v.shape v.instructions t.early t.late U (r.soonest.times b U) (r.latest.times b U))

pub summary_from-requires : goal.summary_from-requires
summary_from-requires c =
    let r = c.times_into-counts.ensures.latest in
    (omega (arith, r.rounds), omega (arith, r.pairs), omega (arith, r.apart))

pub returns : goal.returns
returns c =
    let b = c.args.b in
    let U = c.requires in
    let v = c.args.v.now in
    let t = c.times_into-counts.new.times in
    let soonest = c.times_into-counts.ensures.soonest.times b U in
    let latest = c.times_into-counts.ensures.latest.times b U in
    let r = c.times_into-counts.ensures.latest.counts b U in
    let f = c.summary_from.ensures.copied in
    let g = c.summary_from.ensures.counted in
    record {
      summary =
          summary_is b v.shape v.instructions t.early t.late U soonest latest c.summary_from.result
          (f.0, f.1, f.2 ∙ c.bound_of-bound.ensures, f.3) (g.0 ∙ r.rounds, g.1 ∙ r.pairs, g.2 ∙ r.apart);
      soonest = soonest;
      latest = latest;
    }
