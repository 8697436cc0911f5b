-- `writer::put_head` meets its contract: the header stands in front, and the others are as they were. Assumes nothing.
use Rattle.std.proofs.Common.{arith, sym}
use lib.Seq.{length-take-le}
use Rattle.writer.proofs.put_head.Goals as goal

pub slice_bounds-copy_from_slice-end-2 : goal.slice_bounds-copy_from_slice-end-2
slice_bounds-copy_from_slice-end-2 c = sym (length-take-le 28 c.args.out.now (omega (arith, c.requires.1)))

pub copy_from_slice-requires : goal.copy_from_slice-requires
copy_from_slice-requires c =
    omega (arith, c.requires.0, length-take-le 28 c.args.out.now (omega (arith, c.requires.1)))
