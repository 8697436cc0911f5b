-- No time of instruction i, earliest or latest, exceeds the cycles of i + 1 instructions: each node has a limit for its ready
-- time and one for its finish, and no node's finish limit is above a later node's ready limit. Assumes nothing.
use Prim.Native.Nat.{ℕ, zero, suc, ◌+◌, ◌-◌, ◌*◌, ◌≤◌, ◌<◌, min, max}
use mathlib.Core.Path.{◌≡◌, ap}
use mathlib.Core.Bool.{Bool, true, false}
use mathlib.Core.List.{List, map}
use native.Mathlib.Omega.{arith}
use lib.Dec.{ltb, eqb}
use borrow.Author.Tests.{ltb-true, ltb-false, eqb-true}
use Rattle.lists.specs.Lists.{pick, numbers_where}
use Rattle.lists.specs.Sums.{largest, none}
use Rattle.lists.proofs.Bools.{by_test}
use Rattle.lists.proofs.Members.{in_map}
use Rattle.lists.proofs.NumbersWhere.{largest_at_most}
use Rattle.lists.proofs.Sums.{largest_most}
use Rattle.record.specs.declared.Block.{Block}
use Rattle.record.proofs.AcceptedRanges.{Ranges}
use Rattle.model.specs.Nodes.{IF, EX, CM, nodes, node, stage, instruction, is_if, is_ex, entry, fetch, latency, lowest, highest, finish_into, order_into}
use Rattle.model.specs.Paths.{Pairs, contending}
use Rattle.model.specs.Cycles.{cycles_each, start, finish, ready}
use Rattle.model.specs.Rounds.{earliest, R, rival, latest_ex, latest_start, round, windows, bound}
use Rattle.model.proofs.Predecessors.{finish_below, order_below}
use Rattle.model.proofs.Latencies.{latency_mono, lowest_highest}
use Rattle.model.proofs.TimesInOrder.{earliest_is, round_is}
use Rattle.model.proofs.RoundsEnd.{windows_settled}

-- ---- the limits

-- the longest EX
abbrev pub longest : ℕ
longest = 255

-- how long after its ready time an EX may start: a later one that started just before holds the unit for all its cycles but one
abbrev pub wait : ℕ
wait = longest - 1

-- the finish limit of stage g of the first instruction: IF takes as long as a fetch, EX waits and runs, the others take 1
abbrev end_of : ℕ → ℕ
end_of zero = fetch
end_of (suc zero) = fetch + 1
end_of (suc (suc zero)) = fetch + 1 + (wait + longest)
end_of (suc (suc (suc zero))) = fetch + 1 + (wait + longest) + 1
end_of (suc (suc (suc (suc g)))) = fetch + 1 + (wait + longest) + 1 + 1

-- its ready limit: the finish limit of the stage before
abbrev begin_of : ℕ → ℕ
begin_of zero = 0
begin_of (suc g) = end_of g

-- all five together are the cycles of one instruction
end_most : (g : ℕ) → end_of g ≤ cycles_each
end_most zero = omega arith
end_most (suc zero) = omega arith
end_most (suc (suc zero)) = omega arith
end_most (suc (suc (suc zero))) = omega arith
end_most (suc (suc (suc (suc g)))) = omega arith

end_step : (g : ℕ) → end_of g ≤ end_of (suc g)
end_step zero = omega arith
end_step (suc zero) = omega arith
end_step (suc (suc zero)) = omega arith
end_step (suc (suc (suc zero))) = omega arith
end_step (suc (suc (suc (suc g)))) = omega arith

begin_end : (g : ℕ) → begin_of g ≤ end_of g
begin_end zero = omega arith
begin_end (suc g) = end_step g

end_begin : (g h : ℕ) → g < h → end_of g ≤ begin_of h
end_begin g zero l = absurd (omega arith)
end_begin g (suc h) l =
    by_test (ltb g h) (λ e. omega (arith, end_begin g h (ltb-true g h e), begin_end h))
    (λ e. let q : g ≡ h = omega (arith, ltb-false g h e) in rw q (omega arith))

-- a node's ready limit
abbrev pub ready_limit : ℕ → ℕ
ready_limit v = cycles_each * instruction v + begin_of (stage v)

-- and its finish limit
abbrev pub finish_limit : ℕ → ℕ
finish_limit v = cycles_each * instruction v + end_of (stage v)

pub limits_grow : (u v : ℕ) → u < v → finish_limit u ≤ ready_limit v
limits_grow u v l =
    by_test (ltb (instruction u) (instruction v))
    (λ e. omega (arith, ltb-true (instruction u) (instruction v) e, end_most (stage u)))
    (λ e. let g = ltb-false (instruction u) (instruction v) e in omega (arith, g, end_begin (stage u) (stage v) (omega arith)))

-- the most that a node's start may be above its ready limit, by whether it is an EX
abbrev pub late : Bool → ℕ
late t = pick t wait 0

-- a node's highest latency, by whether it is an EX and whether it is an IF
abbrev most : Bool → Bool → ℕ
most t u = pick t longest (pick u fetch 1)

room_at : (g : ℕ) → g < 5 → begin_of g + late (eqb g EX) + most (eqb g EX) (eqb g IF) ≤ end_of g
room_at zero l = omega arith
room_at (suc zero) l = omega arith
room_at (suc (suc zero)) l = omega arith
room_at (suc (suc (suc zero))) l = omega arith
room_at (suc (suc (suc (suc zero)))) l = omega arith
room_at (suc (suc (suc (suc (suc g))))) l = absurd (omega arith)

pub room : (v : ℕ) → ready_limit v + late (is_ex v) + latency fetch longest v ≤ finish_limit v
unfolding latency
room v = omega (arith, room_at (stage v) (omega arith))

pub latency_longest : (v : ℕ) → latency fetch longest v ≤ longest
unfolding latency
latency_longest v = by_test (is_ex v) (λ t. rw t (omega arith)) (λ t. rw t (by_test (is_if v) (λ u. rw u (omega arith)) (λ u. rw u (omega arith))))

pub end_limit : (v : ℕ) → finish_limit v ≤ cycles_each * (instruction v + 1)
end_limit v = omega (arith, end_most (stage v))

begin_most : (v : ℕ) → ready_limit v ≤ cycles_each * (instruction v + 1)
begin_most v = omega (arith, begin_end (stage v), end_most (stage v))

-- ---- ready times and latest starts, where the finishes before keep their limits
-- what the later ones add, and what the earlier ones leave of it
b_most : (none-later : Bool) (r x : ℕ) → x ≤ longest → pick none-later r (r + x - 1) ≤ r + wait
b_most true r x h = omega arith
b_most false r x h = omega arith

smaller_most : (none-earlier : Bool) (p m x y : ℕ) → p ≤ m → y ≤ m → pick none-earlier p (min (p + x) (max p y)) ≤ m
smaller_most true p m x y h g = h
smaller_most false p m x y h g = omega arith

module _ (b : Block) (A : Ranges b) where
  -- no ready time is above the finishes before it
  ready_most : (lat : ℕ → ℕ) (s : List ℕ) (m v : ℕ) → ((u : ℕ) → u < v → finish lat s u ≤ m) → ready b lat s v ≤ m
  unfolding ready finish
  ready_most lat s m v h =
      let f : largest (map (finish lat s) (finish_into b v)) ≤ m
      = largest_most m (map (finish lat s) (finish_into b v))
      (λ x i. let r = in_map (finish lat s) x (finish_into b v) i in omega (arith, r.2, h r.0 (finish_below b A r.0 v r.1))) in
      let o : largest (map (start s) (order_into b v)) ≤ m
      = largest_most m (map (start s) (order_into b v))
      (λ x i. let r = in_map (start s) x (order_into b v) i in omega (arith, r.2, h r.0 (order_below b A r.0 v r.1))) in
      omega (arith, f, o)

  ready_within : (lat : ℕ → ℕ) (s : List ℕ) (v : ℕ) → ((u : ℕ) → u < v → finish lat s u ≤ finish_limit u)
      → ready b lat s v ≤ ready_limit v
  ready_within lat s v ih = ready_most lat s (ready_limit v) v (λ u l. omega (arith, ih u l, limits_grow u v l))

module _ (b : Block) (A : Ranges b) (cap : (i : ℕ) → (entry b i).hi ≤ longest) where
  pub highest_most : (v : ℕ) → highest b v ≤ latency fetch longest v
  unfolding highest
  highest_most v = latency_mono fetch (entry b (instruction v)).hi longest v (cap (instruction v))

  lowest_most : (v : ℕ) → v < nodes b → lowest b v ≤ latency fetch longest v
  lowest_most v l = omega (arith, lowest_highest b A v l, highest_most v)

  ex_most : (rivals : ℕ → ℕ → Bool) (s : List ℕ) (v : ℕ) → ((u : ℕ) → u < v → finish (highest b) s u ≤ finish_limit u)
      → is_ex v ≡ true → latest_ex b rivals s (instruction v) (R b s v) ≤ ready_limit v + wait
  unfolding latest_ex R
  ex_most rivals s v ih t =
      let i = instruction v in
      let ex : stage v ≡ EX = eqb-true (stage v) EX t in
      let r : ready b (highest b) s v ≤ ready_limit v = ready_within b A (highest b) s v ih in
      let his : largest (map (λ j. highest b (node EX j)) (numbers_where (i + 1) b.n (rivals i))) ≤ longest
      = largest_at_most (rivals i) (λ j. highest b (node EX j)) (i + 1) b.n longest
      (λ j _ m x. omega (arith, highest_most (node EX j), latency_longest (node EX j))) in
      let fs : largest (map (λ j. finish (highest b) s (node EX j)) (numbers_where 0 i (rivals i))) ≤ ready_limit v
      = largest_at_most (rivals i) (λ j. finish (highest b) s (node EX j)) 0 i (ready_limit v)
      (λ j _ m x. let l : node EX j < v = omega arith in omega (arith, ih (node EX j) l, limits_grow (node EX j) v l)) in
      let p = b_most (none (numbers_where (i + 1) b.n (rivals i))) (ready b (highest b) s v) _ his in
      smaller_most (none (numbers_where 0 i (rivals i))) _ (ready_limit v + wait) _ _ (omega (arith, p, r)) (omega (arith, fs))

  start_most : (rivals : ℕ → ℕ → Bool) (s : List ℕ) (v : ℕ) → ((u : ℕ) → u < v → finish (highest b) s u ≤ finish_limit u)
      → latest_start b rivals s v ≤ ready_limit v + late (is_ex v)
  unfolding latest_start R
  start_most rivals s v ih =
      by_test (is_ex v) (λ e. rw e (ex_most rivals s v ih e)) (λ e. rw e (omega (arith, ready_within b A (highest b) s v ih)))

  -- ---- earliest and latest times
  earliest_below : (k v : ℕ) → v < k → v < nodes b → finish (lowest b) (earliest b) v ≤ finish_limit v
  unfolding finish
  earliest_below zero v h l = absurd (omega arith)
  earliest_below (suc k) v h l =
      let r = ready_within b A (lowest b) (earliest b) v (λ u o. earliest_below k u (omega arith) (omega arith)) in
      omega (arith, earliest_is b A v l, r, lowest_most v l, room v)

  round_below : (con known : Pairs) (k v : ℕ) → v < k → v < nodes b → finish (highest b) (round b con known) v ≤ finish_limit v
  unfolding finish
  round_below con known zero v h l = absurd (omega arith)
  round_below con known (suc k) v h l =
      let r = start_most (rival con known) (round b con known) v (λ u o. round_below con known k u (omega arith) (omega arith)) in
      omega (arith, round_is b A con known v l, r, highest_most v, room v)

  -- NO EARLIEST TIME OF INSTRUCTION i EXCEEDS THE CYCLES OF i + 1 INSTRUCTIONS
  pub earliest_limit : (v : ℕ) → v < nodes b → finish (lowest b) (earliest b) v ≤ cycles_each * (instruction v + 1)
  earliest_limit v l = omega (arith, earliest_below (suc v) v (omega arith) l, end_limit v)

  -- NO LATEST TIME EXCEEDS THEM, IN ANY ROUND
  pub round_limit : (con known : Pairs) (v : ℕ) → v < nodes b → finish (highest b) (round b con known) v ≤ cycles_each * (instruction v + 1)
  round_limit con known v l = omega (arith, round_below con known (suc v) v (omega arith) l, end_limit v)

  -- the same of the ready times, which are at most the starts
  pub ready_limit_lem : (con known : Pairs) (v : ℕ) → v < nodes b → R b (round b con known) v ≤ cycles_each * (instruction v + 1)
  unfolding R
  ready_limit_lem con known v l =
      omega (arith, ready_within b A (highest b) (round b con known) v (λ u o. round_below con known v u o (omega arith)), begin_most v)

  -- NO TIME EXCEEDS THE CYCLES OF n INSTRUCTIONS, AND SO THE BOUND DOES NOT
  pub windows_limit : (v : ℕ) → v < nodes b → finish (highest b) (windows b).late v ≤ cycles_each * b.n
  windows_limit v h =
      let e = ap (λ (s : List ℕ). finish (highest b) s v) (windows_settled b).late in
      omega (arith, e, round_limit (contending b) (windows b).known v h)

  pub bound_limit : bound b ≤ cycles_each * b.n
  unfolding bound
  bound_limit = windows_limit (node CM (b.n - 1)) (omega (arith, A.n.0))
