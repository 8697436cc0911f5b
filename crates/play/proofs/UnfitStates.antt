-- An unfit state, as one walk over its 300 starts; and what a fit one is. Assumes nothing.
use Prim.Native.Nat.{ℕ, ◌+◌, ◌≤◌, ◌<◌}
use mathlib.Core.Path.{◌≡◌, refl, sym, ◌∙◌}
use mathlib.Core.Bool.{Bool, true, false, not, ◌&&◌, ◌||◌, false≢true}
use mathlib.Core.Logic.{◌⊎◌, inl, inr}
use native.Mathlib.Omega.{arith}
use mathlib.Core.List.{List}
use lib.ListN.{length, get_or, get_or-eq_default}
use Rattle.std.specs.Bool.{MatchBool}
use Rattle.std.specs.List.{HoldsAt, AllWithin, enumerate_from}
use Rattle.std.proofs.lemmas.List.FromFn.{length-enumerate_from, get_or-enumerate_from}
use lib.Dec.{leb, ltb, eqb}
use borrow.Author.Tests.{lt-ltb, le-ltb, ltb-true, ltb-false, leb-true, le-leb, eqb-true, not-false}
use Rattle.lists.specs.Lists.{exists}
use Rattle.lists.proofs.Least.{exists_not, exists_here, exists_none}
use Rattle.lists.proofs.Bools.{by_test, or_left, or_right, or_cases, or_first, or_second, and_left, and_right, and_both}
use Rattle.record.specs.declared.Block.{Block}
use Rattle.model.specs.Nodes.{nodes}
use Rattle.model.specs.Cycles.{State, most_cycles, last_cycle, not_started, start, started, unfit}
use Rattle.play.specs.inside.StartTest.{unfit_at}
use Rattle.cycles.specs.inside.PlayFacts.{Timed}
use Rattle.schedules.proofs.CycleTurns.{started_is}

-- ---- tests joined
part_first : (a b c : Bool) → (a && (b || c)) ≡ false → (a && b) ≡ false
part_first true true c e = e
part_first true false c e = refl
part_first false b c e = refl

part_second : (a b c : Bool) → (a && (b || c)) ≡ false → c ≡ true → a ≡ false
part_second true b c e t = absurd (false≢true (sym e ∙ or_second b c t))
part_second false b c e t = refl

not_both : (a b : Bool) → (not a && not b) ≡ false → (a ≡ true) ⊎ (b ≡ true)
not_both true b e = inl refl
not_both false b e = inr (not-false b e)

-- ---- one walk, in which a start may have either fault

-- the start of node v is not below the cycle number
abbrev late : State → ℕ → Bool
late p v = started p.starts v && not (ltb (start p.starts v) p.t)

module _ (b : Block) (p : State) (long : length p.starts ≡ 300) (end : ℕ) (q : end ≡ nodes b) where
  has : (v : ℕ) → v < 300 → started p.starts v ≡ not (eqb (start p.starts v) not_started)
  has v l = started_is p.starts v (omega arith)

  pub unfit_here : (v : ℕ) → v < 300 → unfit_at p.t end v (start p.starts v) ≡ true → unfit b p ≡ true
  unfolding unfit unfit_at
  unfit_here v l t = either (or_cases (not (ltb (start p.starts v) p.t)) (leb end v) (and_right (not (eqb (start p.starts v) not_started)) _ t))
    where
      s : started p.starts v ≡ true
      s = has v l ∙ and_left (not (eqb (start p.starts v) not_started)) (not (ltb (start p.starts v) p.t) || leb end v) t

      either : (not (ltb (start p.starts v) p.t) ≡ true) ⊎ (leb end v ≡ true) → unfit b p ≡ true
      either (inl e) =
          or_first (ltb last_cycle p.t || exists 0 300 (late p)) _
          (or_second (ltb last_cycle p.t) _ (exists_here 0 300 (late p) v (omega arith) l (and_both (started p.starts v) _ s e)))
      either (inr e) =
          or_second (ltb last_cycle p.t || exists 0 300 (late p)) _
          (exists_here (nodes b) 300 (started p.starts) v (omega (arith, leb-true end v e)) l s)

  pub unfit_none : p.t ≤ last_cycle → b.n ≤ 60 → ((v : ℕ) → v < 300 → unfit_at p.t end v (start p.starts v) ≡ false) → unfit b p ≡ false
  unfolding unfit unfit_at
  unfit_none l n h =
      let x = exists_none 0 300 (late p) (omega arith)
      (λ v _ g. rw (has v g) (part_first (not (eqb (start p.starts v) not_started)) _ (leb end v) (h v g))) in
      let y = exists_none (nodes b) 300 (started p.starts) (omega arith)
      (λ v k g.
      let beyond : leb end v ≡ true = le-leb end v (omega arith) in
      has v g ∙ part_second (not (eqb (start p.starts v) not_started)) (not (ltb (start p.starts v) p.t)) (leb end v) (h v g) beyond) in
      rw (le-ltb last_cycle p.t l, x, y) refl

  -- THE WALK over the starts and their nodes, by whether it met an unfit one
  abbrev starts : List (ℕ × ℕ)
  starts = enumerate_from 0 p.starts

  abbrev at : ℕ × ℕ → Bool
  at x = unfit_at p.t end x.0 x.1

  start_at : (v : ℕ) → v < length p.starts → ◌≡◌ {A = ℕ × ℕ} (get_or starts v (0, 0)) (v, start p.starts v)
  start_at v few = let e : 0 + v ≡ v = omega arith in get_or-enumerate_from 0 p.starts v (0, 0) few ∙ rw e refl

  pub unfit_walk : (r : Bool) → p.t ≤ last_cycle → b.n ≤ 60
      → MatchBool r ((v : ℕ) × (v < length starts) × HoldsAt (λ (x : ℕ × ℕ). at x ≡ true) starts v)
      (AllWithin (λ (x : ℕ × ℕ). at x ≡ false) starts 0 (length starts))
      → r ≡ unfit b p
  unfit_walk true l n (v, k, h) =
      let few : v < length p.starts = omega (arith, length-enumerate_from 0 p.starts) in
      sym (unfit_here v (omega arith) (rw (start_at v few) at (h (0, 0))))
  unfit_walk false l n h =
      sym (unfit_none l n (λ v k.
      let few : v < length p.starts = omega arith in
      rw (start_at v few) at (h v (0, 0) (omega arith) (omega (arith, length-enumerate_from 0 p.starts)))))

module _ (b : Block) (p : State) where
  pub unfit_after : last_cycle < p.t → unfit b p ≡ true
  unfolding unfit
  unfit_after l = rw (lt-ltb last_cycle p.t l) refl

  -- what a fit state is
  pub fit_now : unfit b p ≡ false → p.t < most_cycles
  unfolding unfit
  fit_now e =
      let a = or_left (ltb last_cycle p.t || exists 0 300 (late p)) (exists (nodes b) 300 (started p.starts)) e in
      omega (arith, ltb-false last_cycle p.t (or_left (ltb last_cycle p.t) (exists 0 300 (late p)) a))

  pub fit_timed : length p.starts ≡ 300 → unfit b p ≡ false → Timed p.t p.starts
  unfolding unfit
  fit_timed l e = record { now = fit_now e; long = l; each = each }
    where
      a : (ltb last_cycle p.t || exists 0 300 (late p)) ≡ false
      a = or_left _ (exists (nodes b) 300 (started p.starts)) e

      seen : (v : ℕ) → (eqb (start p.starts v) not_started ≡ true) ⊎ (ltb (start p.starts v) p.t ≡ true)
          → (start p.starts v ≤ p.t) ⊎ (start p.starts v ≡ not_started)
      seen v (inl t) = inr (eqb-true _ _ t)
      seen v (inr t) = inl (omega (arith, ltb-true (start p.starts v) p.t t))

      each : (v : ℕ) → (start p.starts v ≤ p.t) ⊎ (start p.starts v ≡ not_started)
      each v =
          by_test (ltb v 300)
          (λ h.
          let o = exists_not 0 300 (late p) (or_right (ltb last_cycle p.t) _ a) v (omega arith) (ltb-true v 300 h) in
          seen v (not_both _ _ (rw (started_is p.starts v (omega (arith, ltb-true v 300 h))) at o)))
          (λ h. let z : start p.starts v ≡ 0 = get_or-eq_default p.starts 0 (omega (arith, ltb-false v 300 h)) in inl (omega arith))
