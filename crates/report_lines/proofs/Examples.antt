-- The definitions tried: two block lines, a refusal line, and the report of an empty archive. Assumes nothing.
use mathlib.Core.Path.{◌≡◌, refl}
use mathlib.Core.List.{[]}
use Rattle.lists.specs.Bytes.{ascii}
use Rattle.lists.specs.Lists.{in_order, joined, numbers_where, numbers_where_from, tab, tab_from}
use Rattle.lists.specs.Sums.{any, largest, none, sum}
use Rattle.model.specs.Blocks.{block_e, block_f}
use Rattle.model.specs.Cycles.{finish, ready}
use Rattle.model.specs.Nodes.{finish_edges, finish_into, highest, into, last_writer, latency, lowest, order_edges, order_into, source, sources}
use Rattle.model.specs.Paths.{contend, contending, count, edges_into, pairs, paths, reached}
use Rattle.model.specs.Rounds.{R, apart, apart_count, bound, earliest, latest_ex, latest_start, new, pair_count, rival, round, round_count, rounds_from, windows}
use Rattle.analysis.specs.Result.{summary_of}
use Rattle.report_lines.specs.Report.{block_line, header, lines_from, records, refusal_line, report, summary_line}
use Rattle.report_lines.specs.ReportBlocks.{block_e7, block_f8, stamped}
use Rattle.report_lines.specs.Text.{decimal, digits_of, spaced}

-- a record with a wrong check, at index 3
pub refusal_line_lem : refusal_line 3 2 ≡ ascii "at 3 refused 2\n"
unfolding digits_of decimal spaced refusal_line
refusal_line_lem = refl

-- a report of no records is its header
pub report_none : report [] ≡ header
unfolding joined records lines_from header report
report_none = refl

-- "E as production block 7"
pub line_e : block_line block_e7 ≡ ascii "7 P 4 27 1 1 0\n"
unfolding stamped block_e block_e7 digits_of decimal spaced block_line summary_line summary_of tab tab_from numbers_where numbers_where_from in_order largest sum none any latency lowest highest finish_edges last_writer source sources order_edges into finish_into order_into edges_into reached pairs count paths contend contending finish ready earliest R rival latest_ex latest_start round apart new rounds_from pair_count windows round_count apart_count bound
line_e = refl

-- "F as classroom block 8"
pub line_f : block_line block_f8 ≡ ascii "8 C 4 10 2 2 2\n"
unfolding stamped block_f block_f8 digits_of decimal spaced block_line summary_line summary_of tab tab_from numbers_where numbers_where_from in_order largest sum none any latency lowest highest finish_edges last_writer source sources order_edges into finish_into order_into edges_into reached pairs count paths contend contending finish ready earliest R rival latest_ex latest_start round apart new rounds_from pair_count windows round_count apart_count bound
line_f = refl
