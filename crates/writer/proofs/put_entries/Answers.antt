-- `writer::put_entries` meets its contract: the entries passed stand behind the header, and the rest is as it was. Assumes nothing.
use mathlib.Core.Path.{◌≡◌, ◌∙◌}
use Rattle.record.proofs.OutputVerdicts.{entries_none, entries_more, entries_all}
use borrow.Author.Rules.{rules}
use Rattle.writer.proofs.put_entries.Goals as goal

pub loop-i-init : goal.loop-i-init
loop-i-init c = (search rules, entries_none c.args.b c.args.out.now)

pub loop-i-preserved : goal.loop-i-preserved
loop-i-preserved c =
    let t = c.loop-i in
    (search rules, c.put_entry.ensures ∙ rw t.invariant.1 (entries_more c.args.b c.args.out.now t.i (search rules)))

pub returns : goal.returns
returns c =
    let t = c.loop-i in
    let e : t.i ≡ 60 = search rules in
    rw (t.invariant.1, e) (entries_all c.args.b c.args.out.now)
