-- `choices::choosing::sources_of` meets its contract: the larger of two notes. Assumes nothing.
use mathlib.Core.Path.{refl, ◌∙◌}
use native.Mathlib.Omega.{arith}
use Rattle.std.proofs.lemmas.List.{get_or_default}
use Rattle.choices.specs.inside.InstructionRows.{no_row}
use Rattle.choices.specs.inside.NoteSteps.{sources_of}
use Rattle.choices.proofs.choosing.sources_of.Goals as goal

pub returns : goal.returns
unfolding sources_of
returns c =
    let q = get_or_default c.args.p.now.rows c.args.i c.index-p-i.result no_row (omega arith) in
    (c.from.ensures ∙ c.max.ensures ∙ rw (c.from-first.ensures, c.from-second.ensures, q) refl, omega arith)
