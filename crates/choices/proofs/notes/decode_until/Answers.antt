-- `choices::notes::decode_until` meets its contract: the instructions passed are noted. Assumes nothing.
use mathlib.Core.Path.{◌≡◌, refl}
use native.Mathlib.Omega.{arith}
use Rattle.model.specs.Nodes.{fetch}
use Rattle.choices.proofs.NotesDecoded.{notes_decoded}
use borrow.Author.Rules.{rules}
use Rattle.choices.proofs.notes.decode_until.Goals as goal

pub loop-i-init : goal.loop-i-init
loop-i-init c = (omega arith, λ k. k, λ b l rows c P H e N. N)

pub loop-i-preserved : goal.loop-i-preserved
loop-i-preserved c =
    let t = c.loop-i in (
      search rules,
      λ k. search rules,
      λ b l rows d P H e N.
          rw c.decode_one.ensures
          (notes_decoded b l rows P c.args.p.now.shape H d t.i t.x (t.invariant.2 b l rows d P H e N) fetch refl (omega arith) (omega arith)),
    )

pub returns : goal.returns
returns c =
    let t = c.loop-i in
    record {
      notes = λ b l rows d P H k e N.
          let q = t.invariant.1 k in
          let last : t.i ≡ c.args.end = omega arith in
          rw (← last) (t.invariant.2 b l rows d P H e N);
    }
