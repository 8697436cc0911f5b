-- `reader::bytes_ok` meets its contract. Assumes nothing.
use mathlib.Core.Path.{◌≡◌}
use mathlib.Core.Bool.{not}
use lib.ListN.{get_or}
use Rattle.record.specs.Layout.{entry_at}
use Rattle.record.specs.inside.EntryBytes.{wrong_entry}
use Rattle.record.proofs.EntryRules.{broken_is}
use Rattle.reader.proofs.bytes_ok.Goals as goal

pub returns : goal.returns
returns c =
    let x = c.args in
    let e : not c.entry_ok-ok.result ≡ wrong_entry (get_or x.s.now 4 0) x.i (entry_at x.s.now x.i)
    = rw (← c.entry_at-e.ensures) c.entry_ok-ok.ensures in
    broken_is x.s.now x.i c.entry_ok-ok.result e
