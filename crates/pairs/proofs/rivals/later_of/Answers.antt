-- `pairs::rivals::later_of` meets its contract: after j rows each instruction has the largest of its later ones below j. Assumes nothing.
use mathlib.Core.Path.{◌∙◌, ◌≡◌, refl, sym}
use native.Mathlib.Omega.{arith}
use Rattle.lists.specs.Lists.{numbers_where}
use Rattle.lists.proofs.Elements.{get_or_zeros}
use Rattle.unpacked.specs.inside.UnpackedBlock.{high_of}
use Rattle.pairs.proofs.LaterLatencies.{later_more, later_none}
use Rattle.pairs.proofs.RowStore.{row_read}
use borrow.Author.Rules.{rules}
use Rattle.pairs.proofs.rivals.later_of.Goals as goal

pub loop-j-init : goal.loop-j-init
loop-j-init c = (search rules, refl, λ p R i h. get_or_zeros 60 i ∙ sym (later_none p _ i 0 (omega arith)))

pub loop-j-preserved : goal.loop-j-preserved
loop-j-preserved c =
    let t = c.loop-j in
    let r = c.later_row.ensures in (
      omega arith,
      r.long,
      λ p R i h.
          let q : c.those.result.now ≡ numbers_where 0 t.j (p t.j)
          = c.those.ensures.same ∙ row_read c.args.rows.now t.j _ (search rules) ∙ R.listed t.j (omega arith) in
          r.each i ∙ rw (q, t.invariant.2 p R i h) (sym (later_more p (high_of c.args.u.now) i t.j)),
    )

pub returns : goal.returns
returns c =
    let t = c.loop-j in
    let e : t.j ≡ c.args.n = omega arith in
    record { each = λ p R i h. rw (← e) (t.invariant.2 p R i h) }
