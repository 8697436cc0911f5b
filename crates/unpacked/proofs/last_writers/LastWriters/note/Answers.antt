-- `unpacked::last_writers::LastWriters::note` meets its contract: two stores in the list. Assumes nothing.
use Rattle.unpacked.proofs.RegisterSources.{sources_next}
use borrow.Author.Rules.{rules}
use Rattle.unpacked.proofs.last_writers.LastWriters.note.Goals as goal

pub returns : goal.returns
returns c =
    λ b e S.
    rw c.from.ensures (sources_next b c.self.inside.last c.args.j c.args.register c.self.told (search rules) e (rw (← c.self.view_is) at S))
