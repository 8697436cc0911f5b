-- `report_lines::records::piece_into` meets its contract: the lines of the records passed stand one after the other, each of 128 bytes at
-- most. Assumes nothing.
use Prim.Native.Nat.{◌*◌, ◌+◌, ◌≤◌}
use mathlib.Core.Path.{◌≡◌}
use lib.ListN.{drop, length}
use Rattle.std.specs.Slice.Iter.{chunks_rest, chunks_size}
use Rattle.lists.specs.Lists.{joined, put}
use Rattle.report_lines.specs.Report.{line, record_at}
use Rattle.report_lines.proofs.records.piece_into.Given as goal

abbrev pub invariant-loop-k : goal.invariant-loop-k
invariant-loop-k l = (chunks_size l.k-iterator.iter ≡ 512)
    × (chunks_rest l.k-iterator.iter ≡ drop (512 * l.k-iterator.count) l.s) × (512 * l.k-iterator.count ≤ length l.s + 511)
    × (l.text.at ≤ 128 * l.k-iterator.count)
    × (l.text.at ≡ length (joined l.k-iterator.count (λ j. line (128 * l.piece + j) (record_at l.s j))))
    × (l.text.bytes.now ≡ put l.initial.text.bytes.now 0 (joined l.k-iterator.count (λ j. line (128 * l.piece + j) (record_at l.s j))))
    × (l.text.bytes.ghost_name ≡ l.initial.text.bytes.ghost_name)
    × (length l.text.bytes.now ≡ 16384)
