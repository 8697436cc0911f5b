-- `record::rules::unused_ok` meets its contract: the flags are those of the definition, and bytes 6 and 7 are zero. Assumes nothing.
use Rattle.lists.specs.Lists.{tab, tab_from}
use Rattle.record.specs.Rules.{unused_bytes}
use Rattle.record.specs.Layout.{entry_bytes}
use Rattle.record.proofs.EntryRules.{six_in_turn}
use Rattle.record.proofs.rules.unused_ok.Goals as goal

pub returns : goal.returns
unfolding unused_bytes entry_bytes tab tab_from
returns c =
    let z = c.default.ensures in
    rw (c.eq.ensures, z.0, z.1.0, z.1.1.0, z.1.1.1.0, z.1.1.1.1.0, z.1.1.1.1.1) (six_in_turn _ _ _ _ _ _)
