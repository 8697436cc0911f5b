-- `cycles::unit_ends` meets its contract: the ends of the instructions passed. Assumes nothing.
use mathlib.Core.Path.{refl, ◌∙◌}
use Prim.Native.Nat.{◌<◌}
use native.Mathlib.Omega.{arith}
use lib.ListN.{length-set}
use Rattle.model.specs.Nodes.{chosen}
use Rattle.cycles.proofs.UnitsFree.{before_none, before_more, before_all}
use Rattle.cycles.proofs.unit_ends.Goals as goal

pub loop-i-init : goal.loop-i-init
loop-i-init c = (refl, λ b t n I w. before_none b (chosen b c.args.lat.now) t c.args.s.now)

pub loop-i-preserved : goal.loop-i-preserved
loop-i-preserved c =
    let o = c.loop-i in
    let W = c.args.u.now.within in
    let few : o.i < c.args.u.now.shape.n = omega arith in (
      length-set o.ends _ _ ∙ o.invariant.0,
      λ b t n I w.
          before_more b c.args.u.now.instructions c.args.lat.now I t c.args.s.now w o.i (omega arith) (omega (arith, W.few)) o.ends _ _
          c.from-k.ensures (rw c.from-k.ensures (W.kind o.i few)) c.later_end.ensures (o.invariant.1 b t n I w),
    )

pub returns : goal.returns
returns c =
    let o = c.loop-i in
    record {
      units = λ b t n I w. before_all b (chosen b c.args.lat.now) t c.args.s.now o.i o.ends (omega arith) (o.invariant.1 b t n I w);
    }
