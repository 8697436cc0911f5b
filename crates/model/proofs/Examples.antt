-- The definitions computed: a block of sixteen instructions that takes three rounds, the two tables of block B, an edge that
-- isn't there, states that are fit or not, one cycle. Assumes nothing.
use Prim.Native.Nat.{ℕ}
use mathlib.Core.Path.{◌≡◌, refl}
use mathlib.Core.Bool.{true, false}
use mathlib.Core.List.{List, [], ◌∷◌}
use native.Mathlib.Omega.{arith}
use lib.ListN.{replicate, set}
use Rattle.lists.specs.Lists.{tab, tab_from, least, least_from, exists, numbers_where, numbers_where_from, in_order, joined}
use Rattle.lists.specs.Sums.{largest, sum, none, any, all}
use Rattle.record.specs.Layout.{no_entry}
use Rattle.record.specs.declared.Block.{Block}
use Rattle.record.specs.declared.Entry.{Entry}
use Rattle.model.specs.Nodes.{IF, node, latency, lowest, highest, chosen, finish_edges, last_writer, source, sources, order_edges, into, finish_into, order_into}
use Rattle.model.specs.Paths.{edges_into, Path, reached, pairs, count, paths, contend, contending}
use Rattle.model.specs.Cycles.{State, most_cycles, last_cycle, not_started, started, unfit, finish, ready, runs, units, free, begins, turns, cycle, first_state, all_started, play_on, play, play_length, three_times, play_table}
use Rattle.model.specs.Rounds.{earliest, R, rival, latest_ex, latest_start, round, apart, new, rounds_from, pair_count, windows, round_count, apart_count, bound, window_table}
use Rattle.model.specs.Blocks.{block_a, block_b, block_e}
use Rattle.model.specs.Worked.{summary}
use Rattle.model.proofs.Contention.{path_there}

-- kind, lo, hi, register written, registers read
abbrev does : ℕ → ℕ → ℕ → ℕ → ℕ → ℕ → Entry
does k lo hi w r s = record { kind = k; lo = lo; hi = hi; writes = w; reads1 = r; reads2 = s }

unfoldable pub sixteen : Block
sixteen = record {
  n = 16;
  q = 11;
  w = 10;
  f = 4;
  d = 1;
  c = 1;
  origin = 1;
  number = 0;
  entries =
      does 1 5 5 7 255 6
      ∷ does 0 2 2 4 4 255
      ∷ does 2 2 2 4 255 7
      ∷ does 2 1 2 7 255 7
      ∷ does 0 5 6 1 255 6
      ∷ does 1 2 4 0 6 255
      ∷ does 2 5 6 0 255 7
      ∷ does 1 5 5 255 6 255
      ∷ does 2 5 5 1 5 6
      ∷ does 1 4 5 7 5 3
      ∷ does 0 3 4 1 255 7
      ∷ does 1 3 6 5 2 7
      ∷ does 2 1 1 4 0 3
      ∷ does 1 2 5 255 255 6
      ∷ does 1 5 6 3 7 5
      ∷ does 0 5 6 255 2 5
      ∷ replicate 44 no_entry;
}

-- bound, rounds, pairs, apart
pub sixteen_summary : summary sixteen ≡ 50 ∷ 3 ∷ 25 ∷ 7 ∷ []
unfolding sixteen summary tab tab_from numbers_where numbers_where_from in_order largest sum none any latency lowest highest finish_edges last_writer source sources order_edges into finish_into order_into edges_into reached pairs count paths contend contending finish ready earliest R rival latest_ex latest_start round apart new rounds_from pair_count windows round_count apart_count bound
sixteen_summary = refl

-- the play of all the highest latencies is shorter than the bound
pub sixteen_play : play_length sixteen (highest sixteen) ≡ 42
unfolding sixteen least least_from exists numbers_where numbers_where_from all latency highest finish_edges last_writer source sources order_edges into finish_into order_into started finish runs units free begins turns cycle first_state all_started play_on play play_length
sixteen_play = refl

-- ---- the tables of block B: six numbers a node, and three
pub windows_b : window_table block_b
    ≡ 0 ∷ 0 ∷ 1 ∷ 0 ∷ 0 ∷ 1
    ∷ 1 ∷ 1 ∷ 2 ∷ 1 ∷ 1 ∷ 2
    ∷ 2 ∷ 2 ∷ 3 ∷ 2 ∷ 2 ∷ 6
    ∷ 3 ∷ 3 ∷ 4 ∷ 6 ∷ 6 ∷ 7
    ∷ 4 ∷ 4 ∷ 5 ∷ 7 ∷ 7 ∷ 8 ∷ []
unfolding window_table three_times joined tab tab_from numbers_where numbers_where_from in_order largest sum none any latency lowest highest finish_edges last_writer source sources order_edges into finish_into order_into edges_into reached pairs count paths contend contending finish ready earliest R rival latest_ex latest_start round apart new rounds_from windows block_b
windows_b = refl

pub play_b : play_table block_b (chosen block_b (3 ∷ []))
    ≡ 0 ∷ 0 ∷ 1
    ∷ 1 ∷ 1 ∷ 2
    ∷ 2 ∷ 2 ∷ 5
    ∷ 5 ∷ 5 ∷ 6
    ∷ 6 ∷ 6 ∷ 7 ∷ []
unfolding play_table three_times joined least least_from exists numbers_where numbers_where_from largest all latency chosen finish_edges last_writer source sources order_edges into finish_into order_into started finish ready runs units free begins turns cycle first_state all_started play_on play block_b
play_b = refl

-- ---- "An edge to an instruction beyond n isn't there.": block A has one instruction, and no path leads to a second
pub none_beyond : Path block_a (node IF 0) (node IF 1) → ⊥
unfolding block_a
none_beyond p = omega (arith, path_there block_a (node IF 0) (node IF 1) p)

-- ---- states of block A, which has nodes 0 to 4
abbrev state : ℕ → List ℕ → State
state t s = record { t = t; starts = s }

abbrev fresh : List ℕ
fresh = replicate 300 not_started

-- a node that the list does not have has not started
pub none_there : started (set fresh 0 0) 300 ≡ false
unfolding started
none_there = refl

-- nothing started, in any cycle up to the last
pub fresh_fit : unfit block_a (state last_cycle fresh) ≡ false
unfolding unfit started exists least least_from block_a
fresh_fit = refl

pub late_unfit : unfit block_a (state most_cycles fresh) ≡ true
unfolding unfit started exists least least_from block_a
late_unfit = refl

-- a start below the cycle number, and one at it
pub started_fit : unfit block_a (state 1 (set fresh 0 0)) ≡ false
unfolding unfit started exists least least_from block_a
started_fit = refl

pub start_not_below : unfit block_a (state 1 (set fresh 0 1)) ≡ true
unfolding unfit started exists least least_from block_a
start_not_below = refl

-- a start for an instruction from n on
pub start_beyond : unfit block_a (state 1 (set fresh 5 0)) ≡ true
unfolding unfit started exists least least_from block_a
start_beyond = refl

-- the first cycle of E starts the first IF and nothing else
pub first_cycle : cycle block_e (chosen block_e (1 ∷ 4 ∷ 4 ∷ 12 ∷ [])) first_state ≡ state 1 (set fresh 0 0)
unfolding numbers_where numbers_where_from all latency chosen finish_edges last_writer source sources order_edges into finish_into order_into started finish runs units free begins turns cycle first_state block_e
first_cycle = refl

-- ---- the printed limits

-- "no time exceeds 513 × n, so 30,780", "cycle number above 30,779"
pub limits_printed : (most_cycles ≡ 30780) × (last_cycle ≡ 30779)
limits_printed = (refl, refl)
