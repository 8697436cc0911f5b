-- `pairs::rivals::apart_at` meets its contract. Assumes nothing.
use Rattle.std.proofs.Common.{refl}
use Rattle.pairs.specs.inside.PairRows.{apart_ex}
use Rattle.pairs.proofs.rivals.apart_at.Goals as goal

pub returns : goal.returns
unfolding apart_ex
returns c = rw (c.finish_ex-x.ensures.0, c.finish_ex-y.ensures.0, c.from.ensures, c.from-2.ensures) refl
