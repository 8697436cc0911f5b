-- `pairs::row::Row::len` meets its contract: as many count as the row says. Assumes nothing.
use Rattle.std.proofs.Common.{sym, arith}
use lib.Seq.{length-take-le}
use Rattle.pairs.proofs.row.Row.len.Goals as goal

pub returns : goal.returns
returns c =
    let r = c.args.self.now in
    (sym (length-take-le r.len r.numbers (omega (arith, r.few))), r.few)
