-- `cycles::cycle_into` meets its contract: the turns of the nodes passed. Assumes nothing.
use mathlib.Core.Path.{refl}
use native.Mathlib.Omega.{arith}
use Rattle.model.specs.Nodes.{chosen}
use Rattle.cycles.specs.declared.Turn.{Turn}
use Rattle.cycles.proofs.CycleByNode.{passed_none, passed_more, turned_lent}
use borrow.Author.Rules.{rules}
use Rattle.cycles.proofs.cycle_into.Goals as goal

pub unit_ends-ends-requires : goal.unit_ends-ends-requires
unit_ends-ends-requires c = c.requires.1.list

pub loop-v-init : goal.loop-v-init
loop-v-init c =
    let e = c.unit_ends-ends in (
      refl,
      search rules,
      c.requires.1,
      λ b U w. passed_none b (chosen b c.args.lat.now) c.args.t c.args.s.now e.result w (e.ensures.units b c.args.t U.shape.n U.instructions w),
    )

pub loop-v-preserved : goal.loop-v-preserved
loop-v-preserved c =
    let o = c.loop-v in
    let y : Turn = record { t = c.args.t; i = c.instruction_of.result; g = c.stage_of.result } in
    let T = c.node_turn.ensures in
    let is = c.instruction_of.ensures in (
      refl,
      omega arith,
      turned_lent c.args.u.now c.args.lat.now y o.s o.ends _ _ o.invariant.2 T,
      λ b U w.
          passed_more b c.args.u.now U c.args.lat.now y (omega (arith, U.shape.n, is, o.invariant.0)) (omega arith) c.args.s.now o.v
          (omega (arith, is)) o.s o.ends (o.invariant.3 b U w) _ _ T,
    )
