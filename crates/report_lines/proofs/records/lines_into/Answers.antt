-- `report_lines::records::lines_into` meets its contract. Assumes nothing.
use mathlib.Core.Path.{◌≡◌}
use native.Mathlib.Omega.{arith}
use lib.ListN.{take}
use Rattle.report_lines.proofs.ArchiveRecords.{take_smaller}
use Rattle.report_lines.proofs.records.lines_into.Goals as goal

pub returns-clause-puts_text : goal.returns-clause-puts_text
returns-clause-puts_text c =
    let m = c.min-n in
    let e : take m.result c.args.s.now ≡ take 65536 c.args.s.now = take_smaller m.result 65536 c.args.s.now (omega (arith, m.ensures)) in
    rw e at c.piece_into.ensures
