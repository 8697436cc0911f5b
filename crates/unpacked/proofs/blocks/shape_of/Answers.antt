-- `unpacked::blocks::shape_of` meets its contract: a latency is a byte. Assumes nothing.
use Rattle.record.proofs.BlockValues.{each_bytes}
use borrow.Author.Rules.{rules}
use Rattle.unpacked.proofs.blocks.shape_of.Goals as goal

pub returns : goal.returns
returns c =
    record {
      n = search rules;
      q = search rules;
      w = search rules;
      f = search rules;
      d = search rules;
      c = search rules;
      most =
          λ i.
          (each_bytes c.args.b.entries (search rules) i).hi;
    }
