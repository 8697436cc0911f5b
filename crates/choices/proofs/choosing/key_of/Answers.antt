-- `choices::choosing::key_of` meets its contract: the largest of four, whatever their order. Assumes nothing.
use borrow.Author.Rules.{rules}
use Rattle.choices.specs.inside.NoteSteps.{ready_of, key_of}
use Rattle.choices.proofs.choosing.key_of.Goals as goal

pub returns : goal.returns
unfolding key_of ready_of
returns c = search rules
