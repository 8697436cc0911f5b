-- `writer::put_entry` meets its contract: the eight bytes go where the entry stands. Assumes nothing.
use Rattle.std.proofs.Common.{arith, ◌+◌, ◌-◌}
use Rattle.record.specs.Layout.{entry_bytes}
use Rattle.lists.proofs.JoinedPieces.{part_put}
use Rattle.writer.proofs.put_entry.Goals as goal

pub returns : goal.returns
unfolding entry_bytes
returns c = part_put c.args.at (c.args.at + 8 - c.args.at) c.args.out.now (entry_bytes c.args.e) _ c.copy_from_slice.ensures.after (omega arith)
