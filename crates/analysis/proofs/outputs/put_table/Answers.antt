-- `analysis::outputs::put_table` meets its contract: the nodes passed have their six numbers, and the rest is as it was. Assumes nothing.
use Prim.Native.Nat.{◌*◌, ◌/◌, ◌<◌}
use mathlib.Core.Path.{◌∙◌, ◌≡◌, refl}
use native.Mathlib.Omega.{arith}
use Rattle.analysis.proofs.WindowTable.{table_all, table_more, table_none}
use borrow.Author.Rules.{rules}
use Rattle.analysis.proofs.outputs.put_table.Goals as goal

pub loop-v-init : goal.loop-v-init
loop-v-init c =
    (search rules, refl, table_none c.args.block.now.instructions c.args.times.now.early c.args.times.now.late c.args.out.now)

pub put_node-requires : goal.put_node-requires
put_node-requires c =
    let t = c.loop-v in
    let p = c.args.block.now.within in
    let i = t.v / 5 in
    let l : i < c.args.block.now.shape.n = omega (arith, c.loop-v-test.true) in
    record {
      few = omega (arith, l, p.few);
      first = omega (arith, p.first i l, l, p.few);
      second = omega (arith, p.second i l, l, p.few);
      room = omega (arith, t.invariant.1, c.requires, c.loop-v-test.true);
    }

pub loop-v-preserved : goal.loop-v-preserved
loop-v-preserved c =
    let t = c.loop-v in (
      search rules,
      search rules,
      c.put_node.ensures
          ∙ rw t.invariant.2 (table_more c.args.block.now.instructions c.args.times.now.early c.args.times.now.late c.args.out.now t.v),
    )

pub returns : goal.returns
returns c =
    let t = c.loop-v in
    let e : t.v ≡ 5 * c.args.block.now.shape.n = search rules in
    t.invariant.2 ∙ table_all c.args.block.now c.args.times.now.early c.args.times.now.late c.args.out.now t.v e
