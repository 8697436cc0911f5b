-- `record::check::seal` meets its contract: the check's four bytes go where the record has them. Assumes nothing.
use mathlib.Core.Path.{◌∙◌}
use Prim.Native.Nat.{◌-◌}
use lib.ListN.{length}
use Rattle.lists.specs.Bytes.{bytes}
use Rattle.lists.proofs.Little.{four_bytes, length_bytes}
use Rattle.lists.proofs.JoinedPieces.{part_put}
use native.Mathlib.Omega.{arith}
use Rattle.record.proofs.check.seal.Goals as goal

pub returns : goal.returns
returns c =
    let o = c.args.out.now in
    let x = c.check_of-x.result in
    let four = c.copy_from_slice.ensures.after ∙ c.to_le_bytes.ensures ∙ four_bytes x in
    rw (← c.check_of-x.ensures) (part_put 508 (length o - 508) o (bytes 4 x) _ four (omega (arith, c.requires, length_bytes 4 x)))
