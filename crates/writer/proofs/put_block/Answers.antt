-- `writer::put_block` meets its contract. Assumes nothing.
use mathlib.Core.Path.{◌∙◌}
use Rattle.record.proofs.RecordBytes.{length_head}
use Rattle.record.proofs.OutputVerdicts.{put_record}
use borrow.Author.Rules.{rules}
use Rattle.writer.proofs.put_block.Goals as goal

pub put_head-requires : goal.put_head-requires
put_head-requires c =
    rw c.requires.0 (length_head c.args.b, search rules)

pub returns : goal.returns
returns c =
    c.seal.ensures
    ∙ put_record c.args.b c.args.out.now _ _ _ (search rules) c.requires.0 c.put_head.ensures c.put_entries.ensures
