-- `record::rules::used_ok` meets its contract: the flags are those of the definition, and bytes 6 and 7 are zero. Assumes nothing.
use Rattle.record.specs.Rules.{used_bytes}
use Rattle.record.specs.Layout.{entry_bytes}
use Rattle.record.proofs.EntryRules.{first_six}
use Rattle.record.proofs.rules.used_ok.Goals as goal

pub returns : goal.returns
unfolding used_bytes entry_bytes
returns c =
    rw (c.is_kind-k.ensures, c.is_register-w.ensures, c.is_register-x.ensures, c.is_register-y.ensures)
    (first_six _ _ _ _ _ _)
