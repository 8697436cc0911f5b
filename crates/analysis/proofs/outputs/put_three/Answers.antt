-- `analysis::outputs::put_three` meets its contract: three stores in a row. Assumes nothing.
use mathlib.Core.List.{◌∷◌, []}
use native.Mathlib.Numerals.{add-one, add-two}
use lib.ListN.{length-set}
use lib.Seq.{sets-eq}
use borrow.Author.Rules.{rules}
use Rattle.analysis.proofs.outputs.put_three.Goals as goal

pub bounds-out-at-2 : goal.bounds-out-at-2
bounds-out-at-2 c = simp length-set (search rules)

pub bounds-out-at-3 : goal.bounds-out-at-3
bounds-out-at-3 c = simp length-set (search rules)

pub returns : goal.returns
returns c =
    rw (add-one, add-two) (sets-eq (c.args.ready ∷ c.args.start ∷ c.args.finish ∷ []) c.args.out.now c.args.at (search rules))
