-- `unpacked::blocks::instructions_of` meets its contract: `last` has the sources of all registers, and the instructions
-- passed are filled in. Assumes nothing.
use mathlib.Core.Path.{refl}
use native.Mathlib.Omega.{arith}
use lib.ListN.{length-set}
use Rattle.unpacked.proofs.BlockInstructions.{instructions_none, instructions_more, instructions_all}
use borrow.Author.Rules.{rules}
use Rattle.unpacked.proofs.blocks.instructions_of.Goals as goal

pub loop-j-init : goal.loop-j-init
loop-j-init c = (c.from-n.ensures, search rules, refl, c.new-last.ensures c.args.b, instructions_none c.args.b _)

pub loop-j-preserved : goal.loop-j-preserved
loop-j-preserved c =
    let b = c.args.b in
    let t = c.loop-j in
    let i = t.invariant in (
      i.0,
      search rules,
      simp length-set i.2,
      c.note.ensures b refl i.3,
      instructions_more b t.u t.j _ _ (search rules) (c.source-first.ensures b t.j i.3) (c.source-second.ensures b t.j i.3) i.4,
    )

pub returns : goal.returns
returns c =
    let t = c.loop-j in
    instructions_all c.args.b t.u t.j (omega arith) t.invariant.4
