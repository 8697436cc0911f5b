-- The rounds come to their end: the last one finds no new pair, and there are at most as many as contending pairs, and one
-- more. Assumes nothing.
--
-- Why: a pair is a rival while it contends and is not known to be apart. A round that finds new pairs takes just those from
-- the rivals and adds them to the known. So with fewer rivals than rounds allowed, a round that finds none comes in time.
use Prim.Native.Nat.{ℕ, zero, suc, ◌+◌, ◌≤◌, ◌<◌}
use mathlib.Core.Path.{◌≡◌, refl, ◌∙◌}
use mathlib.Core.Bool.{Bool, true, false, not, ◌&&◌, ◌||◌, and-true}
use mathlib.Core.List.{List, []}
use native.Mathlib.Omega.{arith}
use lib.Dec.{eqb}
use borrow.Author.Tests.{eqb-true, eqb-false}
use Rattle.lists.specs.Lists.{pick}
use Rattle.lists.proofs.Bools.{by_test}
use Rattle.record.specs.declared.Block.{Block}
use Rattle.model.specs.Paths.{Pairs, has, pairs, count, contending}
use Rattle.model.specs.Rounds.{earliest, rival, round, apart, new, Windows, rounds_from, windows, pair_count, round_count, apart_count}
use Rattle.model.proofs.PairSets.{has_pairs, count_parted, count_none, count_ext}

-- ---- one round
module _ (b : Block) (con known : Pairs) (early late : List ℕ) where
  -- the pairs known after a round
  abbrev pub after : Pairs
  after = pairs b.n (λ i j. has known i j || new b con known early late i j)

  -- each rival is found or stays a rival
  stays : (c k a : Bool) → pick (c && not k) 1 0 ≡ pick (c && not (k || (c && not k) && a)) 1 0 + pick ((c && not k) && a) 1 0
  stays true true a = refl
  stays true false true = refl
  stays true false false = refl
  stays false k a = refl

  pub rivals_parted : count b.n (rival con known) ≡ count b.n (rival con after) + count b.n (new b con known early late)
  unfolding rival new
  rivals_parted =
      count_parted b.n (rival con known) (rival con after) (new b con known early late)
      (λ i j l m.
      let e = has_pairs b.n (λ x y. has known x y || new b con known early late x y) i j (omega arith) m in
      rw e (stays (has con i j) (has known i j) (apart b early late i j)))

  -- each known pair was known or is found
  adds : (c k a : Bool) → pick (k || (c && not k) && a) 1 0 ≡ pick k 1 0 + pick ((c && not k) && a) 1 0
  adds true true a = refl
  adds true false true = refl
  adds true false false = refl
  adds false true a = refl
  adds false false a = refl

  pub known_parted : count b.n (has after) ≡ count b.n (has known) + count b.n (new b con known early late)
  unfolding rival new
  known_parted =
      count_parted b.n (has after) (has known) (new b con known early late)
      (λ i j l m.
      let e = has_pairs b.n (λ x y. has known x y || new b con known early late x y) i j (omega arith) m in
      rw e (adds (has con i j) (has known i j) (apart b early late i j)))

-- ---- THE LAST ROUND FINDS NO NEW PAIR, ROUNDS ARE AT MOST PAIRS AND ONE, AND PAIRS ARE APART OR STILL RIVALS
pub record Settled (b : Block) (con : Pairs) (w : Windows) : Type 0 where
  pub late : w.late ≡ round b con w.known
  pub quiet : count b.n (new b con w.known (earliest b) w.late) ≡ 0

-- from round k on, with these pairs known
pub record Rest (b : Block) (con : Pairs) (k : ℕ) (known : Pairs) (w : Windows) : Type 0 where
  pub settled : Settled b con w
  pub rounds : w.rounds ≤ k + count b.n (rival con known)
  pub parted : count b.n (has w.known) + count b.n (rival con w.known) ≡ count b.n (has known) + count b.n (rival con known)

pub above : (x : ℕ) → (x ≡ 0 → ⊥) → 0 < x
above zero f = absurd (f refl)
above (suc x) f = omega arith

module _ (b : Block) (con : Pairs) where
  pub rest : (most k : ℕ) (known : Pairs) → count b.n (rival con known) < most → Rest b con k known (rounds_from most b con k known)
  unfolding rounds_from
  rest zero k known l = absurd (omega arith)
  rest (suc most) k known l =
      by_test (eqb (count b.n found) 0)
      (λ t. rw t (record { settled = record { late = refl; quiet = eqb-true _ 0 t }; rounds = omega arith; parted = refl }))
      (λ t.
      let some : 0 < count b.n found = above _ (eqb-false _ 0 t) in
      let r = rivals_parted b con known (earliest b) late in
      let s = known_parted b con known (earliest b) late in
      let more = rest most (k + 1) (after b con known (earliest b) late) (omega arith) in
      rw t (record { settled = more.settled; rounds = omega (arith, more.rounds); parted = omega (arith, more.parted) }))
    where
      late : List ℕ
      late = round b con known

      found : ℕ → ℕ → Bool
      found = new b con known (earliest b) late

module _ (b : Block) where
  -- at first nothing is known, so all contending pairs are rivals
  pub all_rivals : count b.n (rival (contending b) []) ≡ pair_count b
  unfolding rival pair_count
  all_rivals = count_ext b.n (rival (contending b) []) (has (contending b)) (λ i j l m. and-true (has (contending b) i j))

  none_known : count b.n (has []) ≡ 0
  none_known = count_ext b.n (has []) (λ i j. false) (λ i j l m. refl) ∙ count_none b.n

  whole : Rest b (contending b) 1 [] (windows b)
  unfolding windows pair_count
  whole = rest b (contending b) (pair_count b + 1) 1 [] (omega (arith, all_rivals))

  pub windows_settled : Settled b (contending b) (windows b)
  windows_settled = whole.settled

  pub rounds_most : round_count b ≤ pair_count b + 1
  unfolding round_count
  rounds_most = omega (arith, whole.rounds, all_rivals)

  pub pairs_parted : apart_count b + count b.n (rival (contending b) (windows b).known) ≡ pair_count b
  unfolding apart_count
  pairs_parted = omega (arith, whole.parted, all_rivals, none_known)
