-- `choices::rows::rows_of` meets its contract: `last` has the sources of all registers, and the rows passed are filled. Assumes nothing.
use Prim.Native.Nat.{◌≤◌}
use mathlib.Core.Path.{refl}
use native.Mathlib.Omega.{arith}
use lib.ListN.{length-set}
use borrow.Author.Count.{below_none}
use Rattle.model.specs.Nodes.{entry}
use Rattle.unpacked.proofs.RegisterSources.{source_most}
use Rattle.choices.proofs.RowsFilled.{blank_none, blank_more, filled_more, filled_all}
use borrow.Author.Rules.{rules}
use Rattle.choices.proofs.rows.rows_of.Goals as goal

pub loop-j-init : goal.loop-j-init
loop-j-init c = (c.from-n.ensures, search rules, refl, c.new-last.ensures c.args.b, below_none _, λ i h. blank_none _ refl 60 i)

pub loop-j-preserved : goal.loop-j-preserved
loop-j-preserved c =
    let t = c.loop-j in
    let i = t.invariant in (
      i.0,
      search rules,
      simp length-set i.2,
      c.note.ensures c.args.b refl i.3,
      filled_more c.args.b c.args.lat.now t.rows t.j _ (omega arith)
          (record { kind = refl; takes = refl; first = c.source-first.ensures c.args.b t.j i.3; second = c.source-second.ensures c.args.b t.j i.3 }) i.4,
      blank_more t.rows t.j _ i.5,
    )

pub invariant_of-rows : goal.invariant_of-rows
invariant_of-rows c =
    let t = c.loop-j in
    let e = entry c.args.b t.j in
    let few : t.j ≤ 60 = omega arith in
    let first = c.source-first.ensures c.args.b t.j t.invariant.3 in
    let second = c.source-second.ensures c.args.b t.j t.invariant.3 in
    record {
      sources = (
        omega (arith, few, first, source_most c.args.b e.reads1 t.j),
        omega (arith, few, second, source_most c.args.b e.reads2 t.j),
      );
    }

pub returns : goal.returns
returns c =
    let t = c.loop-j in
    (filled_all c.args.b c.args.lat.now t.rows t.j (omega arith) t.invariant.4, record { kind = λ i h. t.invariant.5 i (omega arith) })
