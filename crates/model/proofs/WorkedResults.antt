-- The blocks worked by hand, computed: each number is the one that is printed. Assumes nothing.
use mathlib.Core.Path.{◌≡◌, refl}
use mathlib.Core.List.{[], ◌∷◌}
use Rattle.lists.specs.Lists.{Every, tab, tab_from, least, least_from, exists, numbers_where, numbers_where_from, in_order, joined}
use Rattle.lists.specs.Sums.{largest, sum, none, any, all}
use Rattle.lists.specs.Bytes.{bytes}
use Rattle.record.specs.Rules.{header_table, lows, highs, outside, register, kind, used_bytes, unused_bytes, wrong_byte, broken}
use Rattle.record.specs.Layout.{head_bytes, entry_bytes, entries_bytes, body, encoded}
use Rattle.record.specs.Refusals.{verdict, header_test, entry_test, block_tests, block_verdict}
use Rattle.model.specs.Nodes.{latency, lowest, highest, chosen, finish_edges, last_writer, source, sources, order_edges, into, finish_into, order_into}
use Rattle.model.specs.Paths.{edges_into, reached, pairs, count, paths, contend, contending}
use Rattle.model.specs.Cycles.{started, finish, ready, runs, units, free, begins, turns, cycle, first_state, all_started, play_on, play, play_length}
use Rattle.model.specs.Rounds.{earliest, R, rival, latest_ex, latest_start, round, apart, new, rounds_from, pair_count, windows, round_count, apart_count, bound}
use Rattle.model.specs.Worked.{summary, first_ex, round_one, first_ex_one, bound_one, worked}
use Rattle.model.specs.Blocks.{block_a, block_b, block_c, block_d, block_e, block_f, block_g, block_h, block_i, block_j}

-- EACH IS THE ONE PRINTED
pub worked_by_hand : Every (λ r. r.found ≡ r.printed) worked
unfolding worked summary first_ex round_one first_ex_one bound_one tab tab_from least least_from exists numbers_where numbers_where_from in_order largest sum none any all latency lowest highest chosen finish_edges last_writer source sources order_edges into finish_into order_into edges_into reached pairs count paths contend contending started finish ready runs units free begins turns cycle first_state all_started play_on play play_length earliest R rival latest_ex latest_start round apart new rounds_from pair_count windows round_count apart_count bound block_a block_b block_c block_d block_e block_f block_g block_h block_i block_j
worked_by_hand = (refl, (refl, (refl, (refl, (refl, (refl, (refl, (refl, (refl, (refl, (refl, tt)))))))))))

-- J GIVES WHAT D GIVES: an instruction "that reads and writes one register" is not "its own writer"
pub worked_j : summary block_j ≡ 13 ∷ 1 ∷ 0 ∷ 0 ∷ []
unfolding summary tab tab_from numbers_where numbers_where_from in_order largest sum none any latency lowest highest finish_edges last_writer source sources order_edges into finish_into order_into edges_into reached pairs count paths contend contending finish ready earliest R rival latest_ex latest_start round apart new rounds_from pair_count windows round_count apart_count bound block_j
worked_j = refl

-- AND EACH BLOCK IS ACCEPTED
pub blocks_accepted : Every (λ b. block_verdict b ≡ (0, 0)) (block_a ∷ block_b ∷ block_c ∷ block_d ∷ block_e ∷ block_f ∷ block_g ∷ block_h ∷ block_i ∷ block_j ∷ [])
unfolding verdict block_tests header_test entry_test tab tab_from least least_from exists header_table lows highs outside register kind used_bytes unused_bytes wrong_byte broken encoded body head_bytes entry_bytes entries_bytes joined bytes block_a block_b block_c block_d block_e block_f block_g block_h block_i block_j
blocks_accepted = (refl, (refl, (refl, (refl, (refl, (refl, (refl, (refl, (refl, (refl, tt))))))))))
