-- "Round rules". A rule stands before the one that uses it; otherwise the order is that of the text.
use Rattle.std.specs.Prelude.{ℕ, zero, suc, ◌+◌, ◌-◌, ◌*◌, min, max, Bool, not, ◌&&◌, ◌||◌, List, [], ◌++◌, map, get_or, leb, eqb}
use Rattle.lists.specs.Lists.{pick, joined, numbers_where, in_order}
use Rattle.lists.specs.Sums.{largest, sum, none}
use Rattle.record.specs.declared.Block.{Block}
use Rattle.model.specs.Nodes.{EX, CM, nodes, node, instruction, is_ex, lowest, highest}
use Rattle.model.specs.Paths.{Pairs, has, pairs, count, contending}
use Rattle.model.specs.Cycles.{finish, ready, three_times}

-- "Earliest ready: the largest of 0, predecessors' earliest finishes (finish edges) and earliest starts (order edges).
-- Earliest start equals it": the list of both, in node order. "earliest finish adds lo (1 off EX)."
unfoldable pub earliest : Block → List ℕ
earliest b = in_order (ready b (lowest b)) (nodes b)

-- "Latest ready R is found in the same way from latest times.": s has the latest starts of the nodes before v
unfoldable pub R : Block → List ℕ → ℕ → ℕ
R b s v = ready b (highest b) s v

-- "contenders not apart from it": con has the contending pairs, known those known to be apart
unfoldable pub rival : Pairs → Pairs → ℕ → ℕ → Bool
rival con known i j = has con i j && not (has known i j)

-- "For EX, consider contenders not apart from it. B = R, or R + (largest hi of the later ones) − 1 if there are later ones.
-- With earlier ones, latest start is the smaller of B + (sum of their hi) and the larger of B and their largest latest
-- finish; with none it is B.": the latest start of EX(i), r being its R and s having the latest starts before it
unfoldable pub latest_ex : Block → (ℕ → ℕ → Bool) → List ℕ → ℕ → ℕ → ℕ
latest_ex b rivals s i r =
    let earlier = numbers_where 0 i (rivals i) in
    let later = numbers_where (i + 1) b.n (rivals i) in
    let his : List ℕ → List ℕ = map (λ j. highest b (node EX j)) in
    let finishes : List ℕ → List ℕ = map (λ j. finish (highest b) s (node EX j)) in
    let B = pick (none later) r (r + largest (his later) - 1) in
    pick (none earlier) B (min (B + sum (his earlier)) (max B (largest (finishes earlier))))

-- "Off EX, latest start is R and finish R + 1. For EX, ..": "Latest finish adds hi."
unfoldable pub latest_start : Block → (ℕ → ℕ → Bool) → List ℕ → ℕ → ℕ
latest_start b rivals s v =
    let r = R b s v in
    let x = latest_ex b rivals s (instruction v) r in
    pick (is_ex v) x r

-- "A round goes in node order with a set of pairs known to be apart": its latest starts
unfoldable pub round : Block → Pairs → Pairs → List ℕ
round b con known = in_order (latest_start b (rival con known)) (nodes b)

-- "a contending pair is apart if one's latest finish is at most the other's earliest ready.": late has the latest starts,
-- early the earliest ready times
unfoldable pub apart : Block → List ℕ → List ℕ → ℕ → ℕ → Bool
apart b early late i j =
    leb (finish (highest b) late (node EX i)) (get_or early (node EX j) 0)
    || leb (finish (highest b) late (node EX j)) (get_or early (node EX i) 0)

-- "new pair apart": one that is apart after the round and was not known to be
unfoldable pub new : Block → Pairs → Pairs → List ℕ → List ℕ → ℕ → ℕ → Bool
new b con known early late i j = rival con known i j && apart b early late i j

-- what the rounds leave: the last one's latest starts, how many rounds, and the pairs known to be apart
pub record Windows : Type 0 where
  pub late : List ℕ
  pub rounds : ℕ
  pub known : Pairs

-- "Rounds are repeated until one finds no new pair apart; that one is counted, and its times are the windows.": round k
-- and those after it, at most `most`
unfoldable pub rounds_from : ℕ → Block → Pairs → ℕ → Pairs → Windows
rounds_from zero b con k known = record { late = []; rounds = k; known = known }
rounds_from (suc most) b con k known =
    let late = round b con known in
    let found = new b con known (earliest b) late in
    let more = rounds_from most b con (k + 1) (pairs b.n (λ i j. has known i j || found i j)) in
    pick (eqb (count b.n found) 0) (record { late = late; rounds = k; known = known }) more

-- the number of contending pairs
unfoldable pub pair_count : Block → ℕ
pair_count b = count b.n (has (contending b))

-- the rounds, the set being "empty at first". pairs + 1 of them are allowed, and the last finds no new pair
-- (windows_settled)
unfoldable pub windows : Block → Windows
windows b = let con = contending b in rounds_from (count b.n (has con) + 1) b con 1 []

-- the number of rounds
unfoldable pub round_count : Block → ℕ
round_count b = (windows b).rounds

-- the number of pairs apart
unfoldable pub apart_count : Block → ℕ
apart_count b = count b.n (has (windows b).known)

-- "The bound is CM(n−1)'s latest finish."
unfoldable pub bound : Block → ℕ
bound b = finish (highest b) (windows b).late (node CM (b.n - 1))

-- "per node, earliest ready, start, finish, then latest ready, start, finish.": the place of number k of the six of node v
abbrev pub window_place : ℕ → ℕ → ℕ
window_place v k = 6 * v + k

-- "30 × n numbers for windows": how many numbers the window table has
abbrev pub window_numbers : Block → ℕ
window_numbers b = 30 * b.n

-- "The window table has, per node, earliest ready, start, finish, then latest ready, start, finish."
unfoldable pub window_table : Block → List ℕ
window_table b =
    let early = earliest b in
    let late = (windows b).late in
    joined (nodes b) (λ v. three_times b (lowest b) early v ++ three_times b (highest b) late v)
