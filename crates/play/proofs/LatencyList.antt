-- A latency list: its verdict by the first test that fails, and what an accepted one is. Assumes nothing.
use Prim.Native.Nat.{ℕ, ◌*◌, ◌≤◌, ◌<◌}
use mathlib.Core.Path.{◌≡◌, sym, ap, ◌∙◌}
use mathlib.Core.Bool.{Bool, true, false, not, ◌||◌}
use mathlib.Core.List.{List, [], ◌∷◌}
use native.Mathlib.Omega.{arith}
use lib.ListN.{length, get_or}
use lib.Dec.{leb, ltb}
use Rattle.std.specs.declared.option.Option.{Option}
use Rattle.std.specs.declared.option.Option.TheVariants.{None, Some}
use Rattle.std.specs.Option.{MatchOption}
use Rattle.std.specs.List.{HoldsAt, AllWithin, zip}
use Rattle.std.proofs.lemmas.Slice.Zip.{get_or-zip, length-zip}
use borrow.Author.Tests.{eq-eqb, ne_eqb, eqb-true, le-leb, lt-leb, ltb-false, not-false}
use Rattle.lists.specs.Lists.{least}
use Rattle.lists.proofs.Least.{least_below, least_here, least_none}
use Rattle.lists.proofs.Bools.{or_left, or_right}
use Rattle.record.specs.Refusals.{verdict, output_test}
use Rattle.record.specs.Layout.{no_entry}
use Rattle.record.specs.declared.Block.{Block}
use Rattle.record.specs.declared.Entry.{Entry}
use Rattle.record.specs.declared.Reason.TheVariants.{Latency}
use Rattle.record.proofs.Verdicts.{none, refuse, pass, passed, refuse_first_fault, pass_first_fault, passed_first_fault}
use Rattle.model.specs.Nodes.{entry}
use Rattle.schedules.specs.inside.Executions.{Fitting}
use Rattle.play.specs.inside.LatencyFault.{WrongAt}
use Rattle.play.specs.Refusals.{wrong, list_test, latency_test, list_tests}

-- ---- its verdict
module _ (b : Block) (l : List ℕ) where
  pub list_length : (length l ≡ b.n → ⊥) → verdict (list_tests b l) ≡ (7, 0)
  unfolding list_tests list_test
  list_length h = refuse (list_test b l) _ (ap not (ne_eqb (length l) b.n h))

  past_length : length l ≡ b.n → verdict (list_tests b l) ≡ verdict (latency_test b l ∷ [])
  unfolding list_tests list_test
  past_length e = pass (list_test b l) _ (ap not (eq-eqb (length l) b.n e))

  pub list_latency : length l ≡ b.n → (i : ℕ) → i ≡ least 0 b.n (wrong b l) → i < b.n → verdict (list_tests b l) ≡ (8, i)
  unfolding latency_test
  list_latency e i f h = past_length e ∙ refuse_first_fault Latency 0 b.n (wrong b l) [] i f h

  pub list_none : length l ≡ b.n → b.n ≤ least 0 b.n (wrong b l) → verdict (list_tests b l) ≡ (0, 0)
  unfolding latency_test
  list_none e h = past_length e ∙ pass_first_fault Latency 0 b.n (wrong b l) [] h ∙ none

-- ---- after the test of an output with room for k numbers
module _ (b : Block) (l : List ℕ) (k : ℕ) where
  pub room_short : k < 15 * b.n → verdict (output_test (leb (15 * b.n) k) ∷ list_tests b l) ≡ (6, 0)
  unfolding output_test
  room_short h = refuse (output_test (leb (15 * b.n) k)) _ (ap not (lt-leb (15 * b.n) k h))

  pub room_right : 15 * b.n ≤ k → verdict (output_test (leb (15 * b.n) k) ∷ list_tests b l) ≡ verdict (list_tests b l)
  unfolding output_test
  room_right h = pass (output_test (leb (15 * b.n) k)) _ (ap not (le-leb (15 * b.n) k h))

-- ---- the walk over the latencies and their entries
module _ (b : Block) (l : List ℕ) (long : length l ≡ b.n) (room : b.n ≤ length b.entries) where
  abbrev ranges : List (ℕ × Entry)
  ranges = zip l b.entries

  abbrev at : ℕ × Entry → Bool
  at x = ltb x.0 x.1.lo || ltb x.1.hi x.0

  range_at : (i : ℕ) → i < b.n → get_or ranges i (0, no_entry) ≡ (get_or l i 0, entry b i)
  range_at i h = get_or-zip l b.entries i (0, no_entry) (omega arith) (omega arith)

  pub wrong_walk : (r : Option ℕ)
      → MatchOption r (AllWithin (λ (x : ℕ × Entry). at x ≡ false) ranges 0 (length ranges))
      (λ i. (i < length ranges) × HoldsAt (λ (x : ℕ × Entry). at x ≡ true) ranges i × AllWithin (λ (x : ℕ × Entry). at x ≡ false) ranges 0 i)
      → MatchOption r (WrongAt b l b.n) (λ i. WrongAt b l i × (i < b.n))
  unfolding wrong
  wrong_walk None h =
      sym (least_none 0 b.n (wrong b l) (omega arith)
      (λ k _ m. rw (range_at k m) at (h k (0, no_entry) (omega arith) (omega (arith, length-zip l b.entries)))))
  wrong_walk (Some i) (m, y, h) =
      let few : i < b.n = omega (arith, length-zip l b.entries) in (
        sym (least_here 0 b.n (wrong b l) i (omega arith) few
            (λ k _ u. rw (range_at k (omega arith)) at (h k (0, no_entry) (omega arith) u)) (rw (range_at i few) at (y (0, no_entry)))),
        few,
      )

-- ---- an accepted one
module _ (b : Block) (l : List ℕ) (z : verdict (list_tests b l) ≡ (0, 0)) where
  parts : (length l ≡ b.n) × (b.n ≤ least 0 b.n (wrong b l))
  unfolding list_tests list_test latency_test
  parts =
      let x = passed (list_test b l) _ z in
      (eqb-true _ _ (not-false _ x.0), (passed_first_fault Latency 0 b.n (wrong b l) [] x.1).0)

  -- has n latencies
  pub listed : length l ≡ b.n
  listed = parts.0

  -- each in its range
  pub ranged : (i : ℕ) → i < b.n → ((entry b i).lo ≤ get_or l i 0) × (get_or l i 0 ≤ (entry b i).hi)
  unfolding wrong
  ranged i h =
      let w = least_below 0 b.n (wrong b l) i (omega arith) (omega (arith, parts.1)) h in (
        ltb-false (get_or l i 0) (entry b i).lo (or_left _ (ltb (entry b i).hi (get_or l i 0)) w),
        ltb-false (entry b i).hi (get_or l i 0) (or_right (ltb (get_or l i 0) (entry b i).lo) _ w),
      )

  -- so the entries allow them
  pub accepted_fitting : Fitting b l
  accepted_fitting = record { least = λ i h. (ranged i h).0; most = λ i h. (ranged i h).1 }
