-- `report_lines::records::piece_into` meets its contract: the lines of the records passed stand one after the other, each of 128 bytes at
-- most. Assumes nothing.
use Prim.Native.Nat.{◌*◌, ◌+◌, ◌/◌}
use mathlib.Core.Path.{◌≡◌, ◌∙◌, refl}
use native.Mathlib.Omega.{arith}
use lib.ListN.{length, length-drop}
use Rattle.std.specs.Slice.Iter.{chunks_rest}
use Rattle.lists.specs.Lists.{joined}
use Rattle.report_lines.specs.Report.{line, lines_from, record_at, records}
use Rattle.report_lines.proofs.ArchiveRecords.{record_chunk}
use Rattle.report_lines.proofs.TextsInOrder.{same_length, texts_more}
use borrow.Author.Rules.{rules}
use Rattle.report_lines.proofs.records.piece_into.Goals as goal

pub loop-k-init : goal.loop-k-init
unfolding joined
loop-k-init c =
    rw (c.into_iter-k-iterator.ensures.into_iter_gives, c.enumerate-k-items.ensures.source, c.enumerate-k-items.ensures.count)
    (c.chunks.ensures.size, c.chunks.ensures.rest, search rules, search rules, refl, refl, refl, search rules)

pub loop-k-preserved : goal.loop-k-preserved
loop-k-preserved c =
    let f = c.line.ensures in
    let t = c.loop-k in
    let it = t.k-iterator in
    let steps = c.in-Some.ensures.steps in
    let i = t.invariant in
    let r = steps.0.1 in
    let parts = record_chunk c.args.s.now (chunks_rest it.iter) c.in-Some.record.now (chunks_rest c.next.new.self.iter) it.count i.1 r.0 (rw i.0 at r.1) in
    let more =
    texts_more (λ j. line (128 * c.args.piece + j) (record_at c.args.s.now j)) c.args.out.now t.text.bytes.now c.line.new.self.bytes.now _ it.count t.text.at
    c.line.new.self.at (rw (c.from-first.ensures, steps.1, parts.0) refl) i.4 i.5 f.puts.next f.puts.output in
    let size = length-drop (512 * it.count) c.args.s.now in
    let left = rw i.1 at r.2 in
    rw steps.2 (
      steps.0.0 ∙ i.0,
      parts.1,
      omega (arith, size, left),
      omega (arith, f.puts.few, i.3),
      more.0,
      more.1,
      f.same_reference ∙ i.6,
      same_length {k = 128} (omega (arith, i.3, i.7, size, left, c.requires)) (omega arith) f ∙ i.7,
    )

pub returns : goal.returns
unfolding lines_from records
returns c =
    let t = c.loop-k in
    let i = t.invariant in
    let none = rw i.1 at c.in-None.ensures.steps.0.1.0 in
    let e : t.k-iterator.count ≡ (length c.args.s.now + 511) / 512 = omega (arith, none, i.2, length-drop (512 * t.k-iterator.count) c.args.s.now) in
    record { long = rw (← e) i.4; output = rw (← e) i.5 }
