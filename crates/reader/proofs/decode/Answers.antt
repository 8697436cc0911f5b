-- `reader::decode` meets its contract. Assumes nothing.
use Rattle.record.specs.Layout.{decoded}
use Rattle.reader.proofs.decode.Goals as goal

pub returns : goal.returns
unfolding decoded
returns c = cc
