-- Which EX is next of its kind, and when it starts. Of a set S the starts are known, and those of a kind come before those of that
-- kind that S has not. Then the oldest that S has not starts as soon as S leaves a unit, if it is ready by then; and one that can
-- start at t, ready and with a unit, starts then if all others that S has not are behind it. With it, S is such a set again.
-- Assumes nothing.
use Prim.Native.Nat.{ℕ, zero, suc, ◌+◌, ◌≤◌, ◌<◌, max}
use mathlib.Core.Path.{◌≡◌, refl, sym, ap, ◌∙◌}
use mathlib.Core.Bool.{Bool, true, false, ◌&&◌, false≢true}
use mathlib.Core.Logic.{◌⊎◌, ⊎_elim}
use native.Mathlib.Omega.{arith}
use native.Mathlib.Decide.{dec_le}
use lib.Dec.{ltb, eqb}
use lib.ListN.{length}
use borrow.Author.Tests.{eqb-true, eqb-false}
use Rattle.lists.specs.Lists.{pick}
use Rattle.lists.proofs.Bools.{by_test, and_left, and_right, and_both}
use Rattle.lists.proofs.NumbersWhere.{numbers_where_quiet, numbers_where_ext, length_but_one, length_fewer}
use Rattle.schedules.specs.inside.Executions.{Work, Sooner, runs_at, Served, held, Front, FreeFrom, Fixes}
use Rattle.schedules.proofs.NetLaws.{tie_begun, tie_le, le_tie}

-- ---- what runs beside i at t, and what S has that finishes after t

-- S has j, of kind k, and it finishes after t
abbrev holds : Work → (ℕ → Bool) → ℕ → ℕ → ℕ → Bool
holds W S k t j = S j && (eqb (W.kind j) k && ltb t (W.start j + W.lat j))

module _ (W : Work) (S : ℕ → Bool) (i t j : ℕ) where
  -- what S has that finishes after t runs at t, if it starts sooner than i would at t
  held_runs : holds W S (W.kind i) t j ≡ true → (S j ≡ true → W.kind j ≡ W.kind i → Sooner W j t i) → runs_at W i t j ≡ true
  unfolding runs_at
  held_runs h sooner =
      let r = and_right (S j) _ h in
      let k = and_left (eqb (W.kind j) (W.kind i)) _ r in
      let s = sooner (and_left (S j) _ h) (eqb-true _ _ k) in
      and_both (eqb (W.kind j) (W.kind i)) _ k
      (and_both (ltb t (W.start j + W.lat j)) _ (and_right (eqb (W.kind j) (W.kind i)) _ r) (le_tie j i (W.start j) t s.begun s.tie))

  -- what runs at t starts sooner than i would at t, and finishes after t
  runs_held : runs_at W i t j ≡ true → (W.kind j ≡ W.kind i → Sooner W j t i → S j ≡ true) → holds W S (W.kind i) t j ≡ true
  unfolding runs_at
  runs_held h has =
      let k = and_left (eqb (W.kind j) (W.kind i)) _ h in
      let r = and_right (eqb (W.kind j) (W.kind i)) _ h in
      let q = and_right (ltb t (W.start j + W.lat j)) _ r in
      let s : Sooner W j t i = record { begun = tie_begun j i (W.start j) t q; tie = tie_le j i (W.start j) t q } in
      and_both (S j) _ (has (eqb-true _ _ k) s)
      (and_both (eqb (W.kind j) (W.kind i)) _ k (and_left (ltb t (W.start j + W.lat j)) _ r))

-- ---- the next of a kind

-- j does not start before t, and after t if it stands before i
abbrev pub Behind : Work → ℕ → ℕ → ℕ → Type 0
Behind W i t j = (t ≤ W.start j) × (j < i → t < W.start j)

module _ (W : Work) (P : Served W) (S : ℕ → Bool) (F : Front W S) (H : ℕ) (top : (i : ℕ) → i < W.n → W.start i < H) where
  -- WHAT S HAS NOT STARTS NO SOONER THAN A UNIT IS FREE. What S has of its kind starts before it; so what of that finishes after
  -- its start runs then, and leaves it a unit. But S leaves a unit from e on only
  pub late : (i e : ℕ) → i < W.n → S i ≡ false → FreeFrom W S H (W.kind i) e → e ≤ W.start i
  unfolding held
  late i e l off free =
      free.from (W.start i) (top i l)
      (omega (
        arith,
        P.room i l,
        length_fewer (holds W S (W.kind i) (W.start i)) (runs_at W i (W.start i)) 0 W.n
            (λ j _ g h. held_runs W S i (W.start i) j h (λ on k. F.each j i g l k on off)),
      ))

  -- WHAT IS READY STARTS ONCE S LEAVES A UNIT, IF S HAS ALL OF ITS KIND THAT START SOONER. Else all units are taken when it has
  -- its turn, by what started sooner; S has that, and it finishes after t; so S leaves no unit
  pub soon : (i t : ℕ) → i < W.n → W.ready i ≤ t → held W S (W.kind i) t < W.units (W.kind i)
      → ((j : ℕ) → j < W.n → W.kind j ≡ W.kind i → Sooner W j t i → S j ≡ true) → W.start i ≤ t
  unfolding held
  soon i t l ready unit has = by_start (dec_le (W.start i) t)
    where
      by_start : Dec (W.start i ≤ t) → W.start i ≤ t
      by_start (yes h) = h
      by_start (no h) =
          omega (
            arith,
            P.waits i t l ready (omega arith),
            length_fewer (runs_at W i t) (holds W S (W.kind i) t) 0 W.n (λ j _ g r. runs_held W S i t j r (has j g)),
          )

  -- ONE THAT CAN START AT t, AND NOT BEFORE, STARTS THEN, IF ALL OF ITS KIND THAT S HAS NOT ARE BEHIND IT. What starts sooner than
  -- one at t is not behind it, so S has it
  starts_then : (i e t : ℕ) → i < W.n → FreeFrom W S H (W.kind i) e → W.ready i ≤ t → e ≤ t → t ≤ W.start i
      → ((j : ℕ) → j < W.n → W.kind j ≡ W.kind i → S j ≡ false → Behind W i t j) → Fixes W S i t
  starts_then i e t l free ready unit least rest =
      let is : W.start i ≡ t = omega (arith, soon i t l ready (free.on t (omega (arith, top i l)) unit) has) in
      record {
        start = is;
        next = λ j g k off ne. let r = rest j g k off in record { begun = omega arith; tie = λ h. omega (arith, r.1 (omega arith)) };
      }
    where
      has : (j : ℕ) → j < W.n → W.kind j ≡ W.kind i → Sooner W j t i → S j ≡ true
      has j g k s =
          by_test (S j) (λ on. on)
          (λ off.
          let r = rest j g k off in
          let older : i ≤ j → ⊥ = λ h. omega (arith, s.tie h) in
          absurd (omega (arith, s.begun, r.1 (omega arith))))

  -- THE OLDEST THAT S HAS NOT STARTS AS SOON AS S LEAVES A UNIT, IF IT IS READY BY THEN. None of its kind that S has not starts
  -- before that time, and none stands before it
  pub oldest : (i e : ℕ) → i < W.n → S i ≡ false → ((j : ℕ) → j < i → S j ≡ true) → FreeFrom W S H (W.kind i) e
      → W.ready i ≤ e → Fixes W S i e
  oldest i e l off first free ready =
      starts_then i e e l free ready (omega arith) (late i e l off free)
      (λ j g k out. (late j e g out (rw k free), λ h. absurd (false≢true (sym out ∙ first j h))))

  -- ONE THAT CAN START AT t STARTS THEN, IF EACH THAT S HAS NOT IS BEHIND IT, OR STARTS AFTER ANOTHER THAT S HAS NOT. Going from
  -- each to that other ends at one that is behind, so all are. It does not start before t: before, it is not ready or has no unit
  pub least : (i e t : ℕ) → i < W.n → S i ≡ false → FreeFrom W S H (W.kind i) e → t ≡ max (W.ready i) e
      → ((j : ℕ) → j < W.n → S j ≡ false → Behind W i t j ⊎ ((m : ℕ) × (m < W.n) × (S m ≡ false) × (W.start m < W.start j)))
      → Fixes W S i t
  least i e t l off free is rest =
      starts_then i e t l free (omega arith) (omega arith) (omega (arith, late i e l off free, P.ready i l))
      (λ j g k out. behind (suc (W.start j)) j g out (omega arith))
    where
      behind : (k j : ℕ) → j < W.n → S j ≡ false → W.start j < k → Behind W i t j
      behind zero j g out h = absurd (omega arith)
      behind (suc k) j g out h =
          ⊎_elim (λ r. r) (λ m. let r = behind k m.0 m.1 m.2 (omega (arith, m.3)) in (omega (arith, m.3, r.0), λ q. omega (arith, m.3, r.0)))
          (rest j g out)

-- ---- S with one more, S written in another way, and none
module _ (W : Work) (S S' : ℕ → Bool) where
  module _ (same : (j : ℕ) → j < W.n → S' j ≡ S j) where
    -- a set that agrees with S is in front as S is
    pub front_same : Front W S → Front W S'
    front_same F = record { each = λ i j l g k on off. F.each i j l g k (sym (same i l) ∙ on) (sym (same j g) ∙ off) }

    -- and holds as many
    pub held_same : (k t : ℕ) → held W S' k t ≡ held W S k t
    unfolding held
    held_same k t = ap length (numbers_where_ext (holds W S' k t) (holds W S k t) 0 W.n (λ j _ l. rw (same j l) refl))

  -- with the next of its kind, S is in front again
  pub front_more : (i t : ℕ) → Front W S → Fixes W S i t → S' i ≡ true → ((j : ℕ) → j < W.n → (j ≡ i → ⊥) → S' j ≡ S j) → Front W S'
  front_more i t F X on same = record { each = each }
    where
      each : (a j : ℕ) → a < W.n → j < W.n → W.kind a ≡ W.kind j → S' a ≡ true → S' j ≡ false → Sooner W a (W.start j) j
      each a j l g k has off =
          let ne : j ≡ i → ⊥ = λ e. false≢true (sym (rw e at off) ∙ on) in
          let out : S j ≡ false = sym (same j g ne) ∙ off in
          by_test (eqb a i)
          (λ q. let e = eqb-true a i q in rw e (X.next j g (rw e at (sym k)) out ne))
          (λ q. F.each a j l g k (sym (same a l (eqb-false a i q)) ∙ has) out)

  -- and holds that one more until it has finished
  pub held_more : (i : ℕ) → i < W.n → S i ≡ false → S' i ≡ true → ((j : ℕ) → j < W.n → (j ≡ i → ⊥) → S' j ≡ S j) → (k t : ℕ)
      → held W S' k t ≡ held W S k t + pick (eqb (W.kind i) k && ltb t (W.start i + W.lat i)) 1 0
  unfolding held
  held_more i l off on same k t =
      rw on at
      (length_but_one (holds W S' k t) (holds W S k t) 0 i W.n (omega arith) l (rw off refl) (λ j _ g ne. rw (same j g ne) refl))

module _ (W : Work) (S : ℕ → Bool) (none : (j : ℕ) → j < W.n → S j ≡ false) where
  -- a set of none is in front
  pub front_none : Front W S
  front_none = record { each = λ i j l g k on off. absurd (false≢true (sym (none i l) ∙ on)) }

  -- and holds nothing
  pub held_none : (k t : ℕ) → held W S k t ≡ 0
  unfolding held
  held_none k t = ap length (numbers_where_quiet (holds W S k t) 0 W.n (λ j _ l. rw (none j l) refl))
