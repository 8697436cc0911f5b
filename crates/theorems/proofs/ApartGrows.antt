-- The pairs apart grow from round to round: a pair that a round finds apart is apart after every later one, so it is all one
-- whether the set is kept or found anew, and the windows show which pairs are apart. Assumes nothing.
--
-- Why: the more pairs are known to be apart, the fewer contenders an EX has to wait for. Then B is no larger, the sum is no
-- larger, nor is the largest latest finish; and the latest start is made of these by sum, larger and smaller. So in node
-- order no latest time of the next round is above that of the round before, while the earliest times stay. A latest finish
-- that was at most an earliest ready still is.
use Prim.Native.Nat.{ℕ, zero, suc, ◌+◌, ◌-◌, ◌≤◌, ◌<◌, min, max}
use mathlib.Core.Path.{◌≡◌, sym, ap, ◌∙◌}
use mathlib.Core.Bool.{Bool, true, false, not, false≢true}
use mathlib.Core.List.{List}
use mathlib.Core.Logic.{inl, inr, ⊎_elim}
use native.Mathlib.Omega.{arith}
use Rattle.lists.proofs.Bools.{by_test, and_left, and_right, and_both, same_test}
use Rattle.lists.proofs.NumbersWhere.{sum_fewer, largest_fewer}
use Rattle.record.specs.declared.Block.{Block}
use Rattle.record.proofs.AcceptedRanges.{Ranges}
use Rattle.model.specs.Nodes.{EX, nodes, node, instruction, is_ex, lowest, highest}
use Rattle.model.specs.Paths.{Pairs, has, count, contending}
use Rattle.model.specs.Cycles.{start, finish, ready}
use Rattle.model.specs.Rounds.{earliest, R, rival, apart, windows, apart_count}
use Rattle.model.proofs.PairSets.{count_ext, count_zero}
use Rattle.model.proofs.RoundsEnd.{windows_settled}
use Rattle.model.proofs.Latencies.{lowest_some}
use Rattle.model.proofs.RoundRules.{Clear, apart_clear, clear_apart}
use Rattle.schedules.proofs.BlockNet.{ready_done, done_ready}
use Rattle.theorems.specs.RoundByRound.{known_at, late_at, apart_by, apart_at}
use Rattle.theorems.proofs.KnownPairs.{found, none_first, found_apart, apart_found, kept_or_found, kept, found_known, last_round}
use Rattle.theorems.proofs.ModelRounds.{G, ex_node, late, at_ex, off_ex}

-- where no part of it is larger, what the round rules make of them is not
latest_mono : (p q s t x y : ℕ) → p ≤ q → s ≤ t → x ≤ y → min (p + s) (max p x) ≤ min (q + t) (max q y)
latest_mono p q s t x y h k m = omega arith

module _ (b : Block) (A : Ranges b) where
  -- no ready time is later where no start before it is
  ready_mono : (lat : ℕ → ℕ) (s t : List ℕ) (v : ℕ) → ((u : ℕ) → u < v → start s u ≤ start t u) → ready b lat s v ≤ ready b lat t v
  ready_mono lat s t v h =
      let d = ready_done b A (lowest b) (lowest_some b A) lat t v (ready b lat t v) (omega arith) in
      done_ready b A (lowest b) (lowest_some b A) lat s v (ready b lat t v)
      (record {
        fin = λ u i. omega (arith, d.fin u i, h u ((G b A).fin_lt u v i));
        ord = λ u i. omega (arith, d.ord u i, h u ((G b A).ord_lt u v i));
      })

  -- ---- a round in which more pairs are known to be apart
  module _ (known more : Pairs) (contains : (i j : ℕ) → i < b.n → j < b.n → has known i j ≡ true → has more i j ≡ true) where
    fewer : (i j : ℕ) → i < b.n → j < b.n → rival (contending b) more i j ≡ true → rival (contending b) known i j ≡ true
    unfolding rival
    fewer i j hi hj t =
        and_both (has (contending b) i j) (not (has known i j)) (and_left (has (contending b) i j) _ t)
        (by_test (has known i j)
        (λ k. absurd (false≢true (sym (ap not (contains i j hi hj k)) ∙ and_right (has (contending b) i j) (not (has more i j)) t)))
        (λ k. ap not k))

    falls_if_earlier_do : (v : ℕ) → v < nodes b → ((u : ℕ) → u < v → start (late b more) u ≤ start (late b known) u)
        → start (late b more) v ≤ start (late b known) v
    unfolding R finish
    falls_if_earlier_do v l ih =
        by_test (is_ex v)
        (λ t.
        let i : ℕ = instruction v in
        let p : ℕ → Bool = rival (contending b) more i in
        let q : ℕ → Bool = rival (contending b) known i in
        let hi : ℕ → ℕ = λ j. highest b (node EX j) in
        let few : (j : ℕ) → j < b.n → p j ≡ true → q j ≡ true = λ j. fewer i j (omega arith) in
        let m = largest_fewer p q (i + 1) b.n (λ j _ m. few j m) hi hi (λ k _ a. omega arith) in
        let before : (j : ℕ) → 0 ≤ j → j < i → p j ≡ true → q j ≡ true = λ j _ m. few j (omega arith) in
        let x = largest_fewer p q 0 i before (λ j. start (late b more) (node EX j) + hi j) (λ j. start (late b known) (node EX j) + hi j)
        (λ k _ a. omega (arith, ih (node EX k) (omega (arith, ex_node v t)))) in
        rw (at_ex b more A v l t, at_ex b known A v l t)
        (latest_mono _ _ _ _ _ _ (omega (arith, r, m)) (sum_fewer p q 0 i before hi) x))
        (λ f. omega (arith, r, off_ex b more A v l f, off_ex b known A v l f))
      where
        r : ready b (highest b) (late b more) v ≤ ready b (highest b) (late b known) v
        r = ready_mono (highest b) (late b more) (late b known) v ih

    falls_below : (k v : ℕ) → v < k → v < nodes b → start (late b more) v ≤ start (late b known) v
    falls_below zero v h l = absurd (omega arith)
    falls_below (suc k) v h l = falls_if_earlier_do v l (λ u o. falls_below k u (omega arith) (omega arith))

    -- MORE PAIRS APART, NO LATER TIMES
    pub round_mono : (v : ℕ) → v < nodes b → start (late b more) v ≤ start (late b known) v
    round_mono v l = falls_below (suc v) v (omega arith) l

  -- ---- the rounds one by one

  -- no latest time is above that of the round before
  late_falls : (k v : ℕ) → v < nodes b → start (late_at b (suc k)) v ≤ start (late_at b k) v
  unfolding late_at
  late_falls k = round_mono (known_at b k) (known_at b (suc k)) (kept b k)

  -- SO A PAIR THAT A ROUND FINDS APART IS APART AFTER THE NEXT
  pub next_apart : (k i j : ℕ) → i < b.n → j < b.n → apart_at b k i j ≡ true → apart_at b (suc k) i j ≡ true
  unfolding apart_by finish
  next_apart k i j hi hj t =
      let c = apart_clear b (earliest b) (late_at b k) i j (and_right contends (apart b (earliest b) (late_at b k) i j) t) in
      and_both contends (apart b (earliest b) (late_at b (suc k)) i j) (and_left contends (apart b (earliest b) (late_at b k) i j) t)
      (clear_apart b (earliest b) (late_at b (suc k)) i j (still_clear c))
    where
      contends : Bool
      contends = has (contending b) i j

      still_clear : Clear b (earliest b) (late_at b k) i j → Clear b (earliest b) (late_at b (suc k)) i j
      still_clear (inl c) = inl (omega (arith, c, late_falls k (node EX i) (omega arith)))
      still_clear (inr c) = inr (omega (arith, c, late_falls k (node EX j) (omega arith)))

  -- ---- the pairs kept are the pairs found anew
  module _ (i j : ℕ) (hi : i < b.n) (hj : j < b.n) where
    known_clear : (k : ℕ) → has (known_at b (suc k)) i j ≡ true → apart_at b k i j ≡ true
    known_clear zero t = ⊎_elim (λ f. absurd (none_first b i j f)) (found_apart b zero i j) (kept_or_found b zero i j hi hj t)
    known_clear (suc k) t =
        ⊎_elim (λ f. next_apart k i j hi hj (known_clear k f)) (found_apart b (suc k) i j) (kept_or_found b (suc k) i j hi hj t)

    clear_known : (k : ℕ) → apart_at b k i j ≡ true → has (known_at b (suc k)) i j ≡ true
    clear_known k t =
        by_test (has (known_at b k) i j) (kept b k i j hi hj) (λ f. found_known b k i j hi hj (apart_found b k i j t f))

    -- THE PAIRS KNOWN AFTER A ROUND ARE THOSE THAT ARE APART BY ITS TIMES
    pub known_apart : (k : ℕ) → has (known_at b (suc k)) i j ≡ apart_at b k i j
    known_apart k = same_test (has (known_at b (suc k)) i j) (apart_at b k i j) (known_clear k) (clear_known k)

  -- ---- the windows' own times
  abbrev last : ℕ
  last = (windows b).rounds - 1

  -- the last round finds none
  none_found : (i j : ℕ) → i < j → j < b.n → found b last i j ≡ false
  none_found =
      count_zero b.n (found b last)
      (rw (← (last_round b).known, ← (last_round b).late) (windows_settled b).quiet)

  -- so the pairs known in it are those known after it
  same_known : (i j : ℕ) → i < j → j < b.n → has (known_at b last) i j ≡ has (known_at b (suc last)) i j
  same_known i j h l =
      let hi : i < b.n = omega arith in
      same_test (has (known_at b last) i j) (has (known_at b (suc last)) i j) (kept b last i j hi l)
      (λ t. ⊎_elim (λ k. k) (λ f. absurd (false≢true (sym (none_found i j h l) ∙ f))) (kept_or_found b last i j hi l t))

  shown : (i j : ℕ) → i < j → j < b.n → has (windows b).known i j ≡ apart_by b (windows b).late i j
  shown i j h l =
      ap (λ (m : Pairs). has m i j) (last_round b).known
      ∙ same_known i j h l
      ∙ known_apart i j (omega arith) l last
      ∙ ap (λ (s : List ℕ). apart_by b s i j) (sym (last_round b).late)

  -- THE PAIRS APART ARE THOSE THAT THE WINDOWS SHOW
  pub count_shown : apart_count b ≡ count b.n (apart_by b (windows b).late)
  unfolding apart_count
  count_shown = count_ext b.n (has (windows b).known) (apart_by b (windows b).late) shown
