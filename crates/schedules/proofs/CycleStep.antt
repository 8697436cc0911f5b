-- One cycle of the model is a step of a schedule: a node starts in it if and only if it may. Assumes nothing.
--
-- Why: at the turn of v the nodes before v have had their turns, and those from v on have the starts of the cycle before. The
-- predecessors of v stand before it, so what the turn sees of them is what the cycle leaves. Of the EX of v's kind the turn
-- sees those that started before this cycle, and of this cycle's those before v: just those that a schedule calls busy when v
-- has its turn. So the tests of the turn are those of a step.
use Prim.Native.Nat.{ℕ, suc, ◌+◌, ◌*◌, ◌/◌, ◌%◌, ◌≤◌, ◌<◌}
use mathlib.Core.Path.{◌≡◌, refl, sym, ap, ◌∙◌}
use mathlib.Core.Bool.{Bool, true, false, ◌&&◌, false≢true}
use mathlib.Core.List.{List}
use mathlib.Core.Logic.{◌⊎◌, inl, inr}
use native.Mathlib.Omega.{arith}
use native.Mathlib.Decide.{dec_le}
use lib.Dec.{leb, ltb, eqb}
use lib.ListN.{length}
use borrow.Author.Tests.{lt-ltb, ltb-true, le-leb, leb-true, eq-eqb, eqb-true}
use Rattle.lists.specs.Lists.{pick, numbers_where}
use Rattle.lists.proofs.Bools.{and_left, and_right, and_both, same_test}
use Rattle.lists.proofs.NumbersWhere.{numbers_where_ext}
use Rattle.record.specs.declared.Block.{Block}
use Rattle.record.proofs.AcceptedRanges.{Ranges}
use Rattle.model.specs.Nodes.{EX, nodes, node, stage, instruction, is_ex, entry}
use Rattle.model.specs.Cycles.{not_started, start, started, finish, runs, units, free, turns}
use Rattle.schedules.specs.inside.Nets.{Net, busy, count_busy, Busy}
use Rattle.schedules.proofs.NetLaws.{busy→, →busy}
use Rattle.schedules.proofs.ScheduleStep.{May, Next}
use Rattle.schedules.proofs.BlockNet.{net, count_ex}
use Rattle.schedules.proofs.CycleTurns.{started_yes, started_not, unstarted, unstarted_start, seen, Known, begun, turns_length, turns_later, turns_below, Begins, begins_means, means_begins}

-- ---- one cycle
module _ (b : Block) (A : Ranges b) (lo : ℕ → ℕ) (pos : (v : ℕ) → v < nodes b → 1 ≤ lo v) (lat : ℕ → ℕ) (H : ℕ) (early : H < not_started)
    (s : List ℕ) (long : nodes b ≤ length s) (known : (v : ℕ) → v < nodes b → Known H (start s v)) where
  -- the starts at the turn of node v, and in the end
  abbrev now : ℕ → List ℕ
  now v = turns b lat H s v

  abbrev after : List ℕ
  after = now (nodes b)

  now_long : (v u : ℕ) → u < nodes b → u < length (now v)
  now_long v u l = omega (arith, turns_length b lat H s v)

  abbrev G : Net
  G = net b A lo pos

  -- a node that had started, one that starts in this cycle, and one that still waits
  abbrev Old : ℕ → Type 0
  Old u = (start s u < H) × (start after u ≡ start s u)

  abbrev New : ℕ → Type 0
  New u = (start s u ≡ not_started) × (begun b lat H s u ≡ true) × (start after u ≡ H)

  abbrev Left : ℕ → Type 0
  Left u = (start s u ≡ not_started) × (begun b lat H s u ≡ false) × (start after u ≡ not_started)

  old_new_left : (u : ℕ) → u < nodes b → Old u ⊎ (New u ⊎ Left u)
  old_new_left u l = by_turn (begun b lat H s u) refl (known u l)
    where
      start_after : start after u ≡ pick (begun b lat H s u) H (start s u)
      start_after = turns_below b lat H s (nodes b) u l long

      by_turn : (t : Bool) → begun b lat H s u ≡ t → Known H (start s u) → Old u ⊎ (New u ⊎ Left u)
      by_turn true e k =
          let w = unstarted_start (now u) u (now_long u u l) (begins_means b lat H (now u) u e).waiting in
          let q : start s u ≡ not_started = omega (arith, turns_later b lat H s u u (omega arith)) in
          inr (inl (q, e, rw e at start_after))
      by_turn false e (inl k) = inl (k, rw e at start_after)
      by_turn false e (inr k) = inr (inr (k, e, (rw e at start_after) ∙ k))

  -- the starts as they are seen after this cycle
  abbrev next : ℕ → ℕ
  next = seen (suc H) after

  module _ (v : ℕ) (l : v < nodes b) where
    -- a node before v has had its turn
    now_before : (u : ℕ) → u < v → start (now v) u ≡ start after u
    now_before u h = turns_below b lat H s v u h (omega arith) ∙ sym (turns_below b lat H s (nodes b) u (omega arith) long)

    -- what has started at v's turn keeps its start, which lies before this cycle if v comes first
    now_after : (w : ℕ) → w < nodes b → start (now v) w ≤ H → (start after w ≡ start (now v) w) × (v ≤ w → start after w < H)
    now_after w lw h = by_place (dec_le v w)
      where
        old : start (now v) w ≡ start s w → Old w ⊎ (New w ⊎ Left w) → (start after w ≡ start (now v) w) × (v ≤ w → start after w < H)
        old e (inl o) = (o.1 ∙ sym e, λ x. omega (arith, o.0, o.1))
        old e (inr (inl o)) = absurd (omega (arith, o.0))
        old e (inr (inr o)) = absurd (omega (arith, o.0))

        by_place : Dec (v ≤ w) → (start after w ≡ start (now v) w) × (v ≤ w → start after w < H)
        by_place (yes k) = old (turns_later b lat H s v w k) (old_new_left w lw)
        by_place (no k) = (sym (now_before w (omega arith)), λ x. absurd (omega arith))

    after_now : (w : ℕ) → w < nodes b → (v ≤ w → start after w < H) → start (now v) w ≡ start after w
    after_now w lw h = by_place (dec_le v w)
      where
        old : v ≤ w → Old w ⊎ (New w ⊎ Left w) → start s w ≡ start after w
        old k (inl o) = sym o.1
        old k (inr (inl o)) = absurd (omega (arith, h k, o.2))
        old k (inr (inr o)) = absurd (omega (arith, h k, o.2))

        by_place : Dec (v ≤ w) → start (now v) w ≡ start after w
        by_place (yes k) = turns_later b lat H s v w k ∙ old k (old_new_left w lw)
        by_place (no k) = now_before w (omega arith)

    -- the EX of v's kind that run at v's turn are those that are busy in the schedule
    abbrev kind_of : ℕ → ℕ
    kind_of j = (entry b j).kind

    abbrev working : ℕ → Bool
    working j = eqb (kind_of j) (kind_of (instruction v)) && runs lat H (now v) j

    working_busy : (j : ℕ) → j < b.n → working j ≡ true → busy G lat next v H (node EX j) ≡ true
    unfolding runs finish
    working_busy j h e =
        let w : ℕ = node EX j in
        let lw : w < nodes b = omega arith in
        let r = and_right (eqb (kind_of j) (kind_of (instruction v))) _ e in
        let x : start (now v) w ≤ H = leb-true _ _ (and_right (started (now v) w) _ (and_left _ (ltb H (start (now v) w + lat w)) r)) in
        let y : H < start (now v) w + lat w = ltb-true _ _ (and_right (started (now v) w && leb (start (now v) w) H) _ r) in
        let q = now_after w lw x in
        let i : (5 * j + 2) / 5 ≡ j = omega arith in
        let g : (5 * j + 2) % 5 ≡ 2 = omega arith in
        →busy G lat next v H w
        (record {
          ex = eq-eqb (stage w) EX g;
          same = ap kind_of i ∙ eqb-true _ _ (and_left _ (runs lat H (now v) j) e);
          runs = omega (arith, q.0);
          begun = omega (arith, q.0);
          tie = λ o. omega (arith, q.1 o);
        })

    busy_working : (j : ℕ) → j < b.n → busy G lat next v H (node EX j) ≡ true → working j ≡ true
    unfolding runs finish
    busy_working j h e =
        let w : ℕ = node EX j in
        let lw : w < nodes b = omega arith in
        let u : Busy G lat next v H w = busy→ G lat next v H w e in
        let q = after_now w lw (λ o. omega (arith, u.tie o)) in
        let i : (5 * j + 2) / 5 ≡ j = omega arith in
        let x : start (now v) w ≤ H = omega (arith, u.begun) in
        let y : H < start (now v) w + lat w = omega (arith, u.runs) in
        and_both (eqb (kind_of j) (kind_of (instruction v))) _ (eq-eqb _ _ (ap kind_of (sym i) ∙ u.same))
        (and_both (started (now v) w && leb (start (now v) w) H) _
        (and_both (started (now v) w) _ (started_yes (now v) w (now_long v w lw) (omega arith)) (le-leb _ _ x))
        (lt-ltb _ _ y))

    busy_off : (u : ℕ) → is_ex u ≡ false → busy G lat next v H u ≡ false
    unfolding busy
    busy_off u e = rw e refl

    same_count : count_busy G lat next v H ≡ length (numbers_where 0 b.n working)
    same_count =
        count_ex (busy G lat next v H) busy_off b.n
        ∙ ap length (numbers_where_ext (λ j. busy G lat next v H (node EX j)) working 0 b.n (λ j a h. same_test _ _ (busy_working j h) (working_busy j h)))

    -- a node that waits starts if and only if it may
    begins_may : begun b lat H s v ≡ true → May G lat H next v
    unfolding free
    begins_may e =
        let k : Begins b lat H (now v) v = begins_means b lat H (now v) v e in
        record {
          ready = record {
            fin = λ u i. let o = G.fin_lt u v i in omega (arith, now_before u o, (k.finished u i).0);
            ord = λ u i. let o = G.ord_lt u v i in omega (arith, at_most u (omega arith) (started_not (now v) u (k.ordered u i)) (now_before u o));
          };
          unit = λ x.
              omega (arith, same_count, ltb-true (length (numbers_where 0 b.n working)) (units b (kind_of (instruction v))) (k.unit x));
        }
      where
        at_most : (u : ℕ) → u < nodes b → (start (now v) u ≡ not_started → ⊥) → start (now v) u ≡ start after u → start after u ≤ H
        at_most u lu n e = by_case (old_new_left u lu)
          where
            by_case : Old u ⊎ (New u ⊎ Left u) → start after u ≤ H
            by_case (inl o) = omega (arith, o.0, o.1)
            by_case (inr (inl o)) = omega (arith, o.2)
            by_case (inr (inr o)) = absurd (n (omega (arith, o.2)))

    may_begins : start s v ≡ not_started → May G lat H next v → begun b lat H s v ≡ true
    unfolding free
    may_begins w m =
        means_begins b lat H (now v) v
        (record {
          waiting = unstarted (now v) v (turns_later b lat H s v v (omega arith) ∙ w);
          finished = λ u i. let o = G.fin_lt u v i in let d = m.ready.fin u i in
              (omega (arith, now_before u o), started_yes (now v) u (now_long v u (omega arith)) (omega (arith, now_before u o)));
          ordered = λ u i. let o = G.ord_lt u v i in let d = m.ready.ord u i in
              started_yes (now v) u (now_long v u (omega arith)) (omega (arith, now_before u o));
          unit = λ x.
              lt-ltb (length (numbers_where 0 b.n working)) (units b (kind_of (instruction v))) (omega (arith, same_count, m.unit x));
        })

  -- ONE CYCLE IS A STEP
  pub turns_next : Next G lat H (seen H s) (seen (suc H) (turns b lat H s (nodes b)))
  turns_next = record { keep = λ v l h. keep v (old_new_left v l) h; fresh = λ v l h. fresh v l (old_new_left v l) h }
    where
      keep : (v : ℕ) → Old v ⊎ (New v ⊎ Left v) → seen H s v < H → next v ≡ seen H s v
      keep v (inl o) h = omega (arith, o.0, o.1)
      keep v (inr (inl o)) h = absurd (omega (arith, o.0))
      keep v (inr (inr o)) h = absurd (omega (arith, o.0))

      fresh : (v : ℕ) → v < nodes b → Old v ⊎ (New v ⊎ Left v) → H ≤ seen H s v
          → ((next v ≡ H) × May G lat H next v) ⊎ ((next v ≡ suc H) × (May G lat H next v → ⊥))
      fresh v l (inl o) h = absurd (omega (arith, o.0))
      fresh v l (inr (inl o)) h = inl (omega (arith, o.2), begins_may v l o.1)
      fresh v l (inr (inr o)) h = inr (omega (arith, o.2), λ m. false≢true (sym o.1 ∙ may_begins v l o.0 m))

  -- and leaves starts of this cycle or before it
  pub turns_known : (v : ℕ) → v < nodes b → Known (suc H) (start (turns b lat H s (nodes b)) v)
  turns_known v l = known_after (old_new_left v l)
    where
      known_after : Old v ⊎ (New v ⊎ Left v) → Known (suc H) (start after v)
      known_after (inl o) = inl (omega (arith, o.0, o.1))
      known_after (inr (inl o)) = inl (omega (arith, o.2))
      known_after (inr (inr o)) = inr o.2
