-- "Cycle rules". A rule stands before the one that uses it; otherwise the order is that of the text.
use Rattle.std.specs.Prelude.{ℕ, zero, suc, ◌+◌, ◌-◌, ◌*◌, max, Bool, not, ◌&&◌, ◌||◌, List, [], ◌∷◌, map, length, get_or, set, replicate, leb, ltb, eqb}
use Rattle.lists.specs.Lists.{pick, exists, numbers_where, joined}
use Rattle.lists.specs.Sums.{largest, all}
use Rattle.record.specs.declared.Block.{Block}
use Rattle.model.specs.Nodes.{EX, CM, nodes, node, instruction, is_ex, entry, finish_into, order_into}

-- "A state holds a cycle number t and, per node, its start or "not started"."
pub record State : Type 0 where
  pub t : ℕ
  pub starts : List ℕ

-- "not started": a number above every start
abbrev pub not_started : ℕ
not_started = 65535

-- the start of node v, s having them in node order
abbrev pub start : List ℕ → ℕ → ℕ
start s v = get_or s v 0

-- node v has started: it is one of the list's, and its number there is a start
unfoldable pub started : List ℕ → ℕ → Bool
started s v = ltb v (length s) && not (eqb (start s v) not_started)

-- "start + latency" of node v, lat giving each node its latency
unfoldable pub finish : (ℕ → ℕ) → List ℕ → ℕ → ℕ
finish lat s v = start s v + lat v

-- "no time exceeds 513 × n": the cycles of one instruction
abbrev pub cycles_each : ℕ
cycles_each = 513

-- "so 30,780": those of 60 instructions
abbrev pub most_cycles : ℕ
most_cycles = 60 * cycles_each

-- "cycle number above 30,779": the last that a state may have
abbrev pub last_cycle : ℕ
last_cycle = most_cycles - 1

-- "play state unfit: cycle number above 30,779, a recorded start not below it, or a start recorded for an instruction
-- from n on" (refusal 9)
unfoldable pub unfit : Block → State → Bool
unfit b p =
    ltb last_cycle p.t
    || exists 0 300 (λ v. started p.starts v && not (ltb (start p.starts v) p.t))
    || exists (nodes b) 300 (started p.starts)

-- EX of instruction j "has start ≤ t < start + latency"
unfoldable pub runs : (ℕ → ℕ) → ℕ → List ℕ → ℕ → Bool
runs lat t s j = started s (node EX j) && leb (start s (node EX j)) t && ltb t (finish lat s (node EX j))

-- how many units of kind k there are: one unit of each kind in this build
unfoldable pub units : Block → ℕ → ℕ
units b k = 1

-- "no EX of its kind has start ≤ t < start + latency": fewer of kind k run than there are units of it
unfoldable pub free : Block → (ℕ → ℕ) → ℕ → List ℕ → ℕ → Bool
free b lat t s k = ltb (length (numbers_where 0 b.n (λ j. eqb (entry b j).kind k && runs lat t s j))) (units b k)

-- "each node not started starts at t if every finish-edge predecessor has start + latency at most t, every order-edge
-- predecessor has started (this cycle counts), and, for EX, no EX of its kind .."
unfoldable pub begins : Block → (ℕ → ℕ) → ℕ → List ℕ → ℕ → Bool
begins b lat t s v =
    not (started s v)
    && all (λ u. started s u && leb (finish lat s u) t) (finish_into b v)
    && all (started s) (order_into b v)
    && (not (is_ex v) || free b lat t s (entry b (instruction v)).kind)

-- "in node order": the starts after the turns of the nodes below k in cycle t
unfoldable pub turns : Block → (ℕ → ℕ) → ℕ → List ℕ → ℕ → List ℕ
turns b lat t s zero = s
turns b lat t s (suc k) = let now = turns b lat t s k in pick (begins b lat t now k) (set now k t) now

-- "One cycle of play takes the state and gives back the next", "Then t grows by one."
unfoldable pub cycle : Block → (ℕ → ℕ) → State → State
cycle b lat p = record { t = p.t + 1; starts = turns b lat p.t p.starts (nodes b) }

-- "from t = 0, nothing started"
unfoldable pub first_state : State
first_state = record { t = 0; starts = replicate 300 not_started }

-- "all have started"
unfoldable pub all_started : Block → State → Bool
all_started b p = not (exists 0 (nodes b) (λ v. not (started p.starts v)))

-- the state in which all have started, or after `most` cycles if that is sooner
unfoldable pub play_on : ℕ → Block → (ℕ → ℕ) → State → State
play_on zero b lat p = p
play_on (suc most) b lat p = let rest = play_on most b lat (cycle b lat p) in pick (all_started b p) p rest

-- "A play runs from t = 0, nothing started, until all have started": the starts then. As many cycles are
-- allowed as 60 instructions may take
unfoldable pub play : Block → (ℕ → ℕ) → List ℕ
play b lat = (play_on most_cycles b lat first_state).starts

-- "its length is CM(n−1)'s finish."
unfoldable pub play_length : Block → (ℕ → ℕ) → ℕ
play_length b lat = finish lat (play b lat) (node CM (b.n - 1))

-- "Ready is the largest of 0, finish-edge finishes and order-edge starts."
unfoldable pub ready : Block → (ℕ → ℕ) → List ℕ → ℕ → ℕ
ready b lat s v = max (largest (map (finish lat s) (finish_into b v))) (largest (map (start s) (order_into b v)))

-- "ready, start, finish" of node v
unfoldable pub three_times : Block → (ℕ → ℕ) → List ℕ → ℕ → List ℕ
three_times b lat s v = ready b lat s v ∷ start s v ∷ finish lat s v ∷ []

-- "ready, start, finish per node, in node order": the place of number k of the three of node v
abbrev pub play_place : ℕ → ℕ → ℕ
play_place v k = 3 * v + k

-- "15 × n for a play": how many numbers the play table has
abbrev pub play_numbers : Block → ℕ
play_numbers b = 15 * b.n

-- "The play table holds ready, start, finish per node, in node order."
unfoldable pub play_table : Block → (ℕ → ℕ) → List ℕ
play_table b lat = let s = play b lat in joined (nodes b) (three_times b lat s)
