-- `unpacked::last_writers::LastWriters::new` meets its contract: a list of zeros. Assumes nothing.
use Rattle.unpacked.proofs.RegisterSources.{sources_none}
use Rattle.unpacked.proofs.last_writers.LastWriters.new.Goals as goal

pub returns : goal.returns
returns c = sources_none
