-- `writer::head_bytes` meets its contract: what every block value is comes from what the machine knows of its parts.
-- Assumes nothing.
use mathlib.Core.Path.{◌≡◌, refl}
use Prim.Native.Nat.{◌/◌, ◌%◌}
use native.Mathlib.Omega.{arith}
use lib.ListN.{get_or}
use Rattle.lists.specs.Bytes.{bytes}
use Rattle.lists.proofs.TableByIndex.{length_mapped}
use Rattle.record.specs.Layout.{head_bytes}
use Rattle.record.specs.Promises.{Whole}
use Rattle.record.proofs.BlockValues.{each_bytes}
use borrow.Author.Rules.{rules}
use Rattle.writer.proofs.head_bytes.Goals as goal

pub returns : goal.returns
unfolding head_bytes bytes
returns c =
    let whole : Whole c.args.b = let g = c.struct_known-1.given in
    record {
      n = search rules;
      q = search rules;
      w = search rules;
      f = search rules;
      d = search rules;
      c = search rules;
      origin = search rules;
      number = search rules;
      entries = search (length_mapped, rules);
      each = each_bytes c.args.b.entries g.1.1.1.1.1.1.1.1.0;
    } in
    let x = c.args.b.number in
    let first : get_or c.to_le_bytes.result 0 0 ≡ x % 256 = rw c.to_le_bytes.ensures (omega arith) in
    let second : get_or c.to_le_bytes.result 1 0 ≡ x / 256 % 256 = rw c.to_le_bytes.ensures (omega arith) in
    let third : get_or c.to_le_bytes-2.result 0 0 ≡ x / 256 / 256 % 256 = rw c.to_le_bytes-2.ensures (omega arith) in
    let fourth : get_or c.to_le_bytes-2.result 1 0 ≡ x / 256 / 256 / 256 % 256 = rw c.to_le_bytes-2.ensures (omega arith) in
    (rw (first, second, third, fourth) refl, whole)
