-- `report_lines::records::header` meets its contract. Assumes nothing.
use mathlib.Core.Path.{refl}
use Rattle.report_lines.specs.Report.{header}
use Rattle.report_lines.proofs.records.header.Goals as goal

pub returns : goal.returns
unfolding header
returns c = refl
