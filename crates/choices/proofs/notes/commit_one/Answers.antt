-- `choices::notes::commit_one` meets its contract: one store, of a time worked out before it. Assumes nothing.
use borrow.Author.Rules.{rules}
use Rattle.choices.specs.inside.NoteSteps.{committed_of, committed_into}
use Rattle.choices.proofs.notes.commit_one.Goals as goal

pub returns : goal.returns
unfolding committed_into committed_of
returns c = search rules
