-- "Blocks worked by hand": the eleven results marked P. That each is the one printed is worked_by_hand in proofs/WorkedResults.
use Rattle.std.specs.Prelude.{ℕ, ◌-◌, List, [], ◌∷◌, ◌++◌}
use Rattle.record.specs.declared.Block.{Block}
use Rattle.model.specs.Nodes.{EX, CM, node, highest, chosen}
use Rattle.model.specs.Paths.{contending}
use Rattle.model.specs.Cycles.{start, finish, play_length}
use Rattle.model.specs.Rounds.{round, windows, bound, round_count, pair_count, apart_count}
use Rattle.model.specs.Blocks.{block_a, block_b, block_c, block_d, block_e, block_f, block_g, block_h, block_i}

-- "bound, rounds, pairs, apart"
unfoldable pub summary : Block → List ℕ
summary b = bound b ∷ round_count b ∷ pair_count b ∷ apart_count b ∷ []

-- the first EX's latest start in the windows
unfoldable pub first_ex : Block → ℕ
first_ex b = start (windows b).late (node EX 0)

-- "after round one": its latest starts, no pair being known to be apart
unfoldable pub round_one : Block → List ℕ
round_one b = round b (contending b) []

-- the first EX's latest start then
unfoldable pub first_ex_one : Block → ℕ
first_ex_one b = start (round_one b) (node EX 0)

-- the bound then
unfoldable pub bound_one : Block → ℕ
bound_one b = finish (highest b) (round_one b) (node CM (b.n - 1))

-- a result that is worked out, and the one that is printed
pub record WorkedResult : Type 0 where
  pub found : List ℕ
  pub printed : List ℕ

-- both, written short
abbrev pub gives : List ℕ → List ℕ → WorkedResult
gives x y = record { found = x; printed = y }

-- the eleven
unfoldable pub worked : List WorkedResult
worked =
    -- A "5, 1, 0, 0"
    gives (summary block_a) (5 ∷ 1 ∷ 0 ∷ 0 ∷ [])
    -- B "8, 1, 0, 0; EX latest start 2"
    ∷ gives (summary block_b ++ (first_ex block_b ∷ [])) (8 ∷ 1 ∷ 0 ∷ 0 ∷ 2 ∷ [])
    -- C "13, 1, 1, 0"
    ∷ gives (summary block_c) (13 ∷ 1 ∷ 1 ∷ 0 ∷ [])
    -- D "13, 1, 0, 0"
    ∷ gives (summary block_d) (13 ∷ 1 ∷ 0 ∷ 0 ∷ [])
    -- E "27, 1, 1, 0"
    ∷ gives (summary block_e) (27 ∷ 1 ∷ 1 ∷ 0 ∷ [])
    -- F "10, 2, 2, 2; first EX latest start 2 (4 after round one)"
    ∷ gives (summary block_f ++ (first_ex block_f ∷ first_ex_one block_f ∷ [])) (10 ∷ 2 ∷ 2 ∷ 2 ∷ 2 ∷ 4 ∷ [])
    -- G "6, 1, 1, 0"
    ∷ gives (summary block_g) (6 ∷ 1 ∷ 1 ∷ 0 ∷ [])
    -- H "9, 1, 0, 0"
    ∷ gives (summary block_h) (9 ∷ 1 ∷ 0 ∷ 0 ∷ [])
    -- I "17, 2, 1, 1 (bound 18 after round one)"
    ∷ gives (summary block_i ++ (bound_one block_i ∷ [])) (17 ∷ 2 ∷ 1 ∷ 1 ∷ 18 ∷ [])
    -- "playing E with first latency 1 ends at 27,"
    ∷ gives (play_length block_e (chosen block_e (1 ∷ 4 ∷ 4 ∷ 12 ∷ [])) ∷ []) (27 ∷ [])
    -- "and with 4 at 23."
    ∷ gives (play_length block_e (chosen block_e (4 ∷ 4 ∷ 4 ∷ 12 ∷ [])) ∷ []) (23 ∷ [])
    ∷ []
