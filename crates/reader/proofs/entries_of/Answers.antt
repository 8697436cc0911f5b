-- `reader::entries_of` meets its contract: each element passed is the entry of the record. Assumes nothing.
use Rattle.record.specs.Layout.{no_entry}
use Rattle.lists.proofs.TableByIndex.{is_tab}
use borrow.Author.Rules.{rules}
use Rattle.reader.proofs.entries_of.Goals as goal

pub returns : goal.returns
returns c = is_tab 60 _ no_entry _ (search rules) (λ j h. c.loop-i.invariant.1 j (search rules))
