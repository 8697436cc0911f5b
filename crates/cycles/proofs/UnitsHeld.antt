-- A unit is held from the start of an EX of its kind until its finish: what is known of the units stays known when a node
-- starts. Assumes nothing.
use Prim.Native.Nat.{ℕ, ◌+◌, ◌≤◌, ◌<◌, max}
use mathlib.Core.Path.{◌≡◌, refl, sym, ap, ◌∙◌}
use mathlib.Core.Bool.{Bool, true, false, not, ◌&&◌, false≢true, and-false}
use mathlib.Core.List.{List, [], ◌∷◌}
use mathlib.Core.Logic.{◌⊎◌, inl}
use native.Mathlib.Omega.{arith}
use lib.Dec.{leb, ltb, eqb}
use lib.ListN.{length, get_or, set, length-set}
use lib.Seq.{get_or-set_same, get_or-set_other}
use borrow.Author.Tests.{le-leb, leb-true, leb-false, lt-ltb, le-ltb, eq-eqb, ne_eqb, eqb-true, eqb-false}
use Rattle.lists.specs.Lists.{pick, In, numbers_where}
use Rattle.lists.proofs.Bools.{by_test, and_right}
use Rattle.lists.proofs.Elements.{all_set}
use Rattle.lists.proofs.NumbersWhere.{numbers_where_none, numbers_where_front, in_numbers_where, numbers_where_ext}
use Rattle.record.specs.declared.Block.{Block}
use Rattle.record.proofs.AcceptedRanges.{Ranges, ranges}
use Rattle.model.specs.Nodes.{EX, node, entry, chosen}
use Rattle.model.specs.Cycles.{not_started, started, finish, runs, units, free}
use Rattle.unpacked.specs.inside.UnpackedBlock.{kind_of, Unpacked}
use Rattle.unpacked.specs.declared.UnpackedBlock.{UnpackedBlock}
use Rattle.unpacked.specs.inside.StageNumbers.{number}
use Rattle.cycles.specs.inside.NodeTurn.{stage_ready, from_when, ended, node_of, starting}
use Rattle.cycles.specs.inside.PlayFacts.{Timed, Units}
use Rattle.cycles.specs.declared.Turn.{Turn}
use Rattle.model.proofs.Latencies.{chosen_ex}

-- ---- a start more
pub timed_start : (t : ℕ) (s : List ℕ) (v : ℕ) → Timed t s → Timed t (set s v t)
timed_start t s v w = record {
  now = w.now;
  long = length-set s v t ∙ w.long;
  each = all_set (λ (x : ℕ). (x ≤ t) ⊎ (x ≡ not_started)) s v t w.each (inl (omega arith));
}

runs_other : (lat : ℕ → ℕ) (t' : ℕ) (s : List ℕ) (v t j : ℕ) → (node EX j ≡ v → ⊥) → runs lat t' (set s v t) j ≡ runs lat t' s j
unfolding runs started finish
runs_other lat t' s v t j off = rw (length-set, get_or-set_other s v (node EX j) t 0 off) refl

runs_own : (lat : ℕ → ℕ) (t' : ℕ) (s : List ℕ) (t i : ℕ) → node EX i < length s → t < not_started → t ≤ t'
    → runs lat t' (set s (node EX i) t) i ≡ ltb t' (t + lat (node EX i))
unfolding runs started finish
runs_own lat t' s t i h early m =
    rw (length-set, lt-ltb (node EX i) (length s) h, get_or-set_same s (node EX i) t 0 h, ne_eqb t not_started (λ e. omega arith), le-leb t t' m) refl

-- ---- a unit is free if no EX of its kind runs
length_in : (x : ℕ) (xs : List ℕ) → In x xs → 1 ≤ length xs
length_in x [] h = absurd h
length_in x (y ∷ ys) h = omega arith

module _ (b : Block) (lat : ℕ → ℕ) (t : ℕ) (s : List ℕ) (k : ℕ) where
  -- the EX of instruction j is of kind k and runs
  abbrev pub holds : ℕ → Bool
  holds j = eqb (entry b j).kind k && runs lat t s j

  free_none : ((j : ℕ) → j < b.n → holds j ≡ false) → free b lat t s k ≡ true
  unfolding free units
  free_none h = rw (numbers_where_front holds 0 b.n b.n (omega arith) (omega arith) (λ j a l. h j l), numbers_where_none) refl

  free_one : (j : ℕ) → j < b.n → holds j ≡ true → free b lat t s k ≡ false
  unfolding free units
  free_one j l e =
      let one = in_numbers_where holds 0 b.n j (omega arith) l e in
      le-ltb (length (numbers_where 0 b.n holds)) 1 (length_in j (numbers_where 0 b.n holds) one)

  none_free : free b lat t s k ≡ true → (j : ℕ) → j < b.n → holds j ≡ false
  none_free e j l = by_test (holds j) (λ f. absurd (false≢true (sym (free_one j l f) ∙ e))) (λ f. f)

module _ (b : Block) (lat : ℕ → ℕ) (t' : ℕ) (s : List ℕ) (v t k : ℕ) where
  -- nothing that runs at a unit of kind k is touched
  free_other : ((j : ℕ) → j < b.n → (entry b j).kind ≡ k → node EX j ≡ v → ⊥) → free b lat t' (set s v t) k ≡ free b lat t' s k
  unfolding free
  free_other off =
      ap (λ xs. ltb (length xs) (units b k))
      (numbers_where_ext (holds b lat t' (set s v t) k) (holds b lat t' s k) 0 b.n
      (λ j a l.
      by_test (eqb (entry b j).kind k)
      (λ e. rw (e, runs_other lat t' s v t j (off j l (eqb-true (entry b j).kind k e))) refl)
      (λ e. rw e refl)))

-- ---- an EX starts at a unit that is free
module _ (b : Block) (lat : ℕ → ℕ) (t : ℕ) (s : List ℕ) (early : t < not_started) (i : ℕ) (few : i < b.n) (long : node EX i < length s) where
  started_ex : (t' : ℕ) → t ≤ t' → free b lat t' s (entry b i).kind ≡ true
      → free b lat t' (set s (node EX i) t) (entry b i).kind ≡ leb (t + lat (node EX i)) t'
  started_ex t' m f =
      by_test (leb (t + lat (node EX i)) t')
      (λ e. free_none b lat t' (set s (node EX i) t) k (λ j l. quiet j l (leb-true (t + lat (node EX i)) t' e)) ∙ sym e)
      (λ e.
      free_one b lat t' (set s (node EX i) t) k i few
      (rw (eq-eqb k k refl, runs_own lat t' s t i long early m) (lt-ltb t' (t + lat (node EX i)) (leb-false (t + lat (node EX i)) t' e)))
      ∙ sym e)
    where
      k : ℕ
      k = (entry b i).kind

      quiet : (j : ℕ) → j < b.n → t + lat (node EX i) ≤ t' → holds b lat t' (set s (node EX i) t) k j ≡ false
      quiet j l done =
          by_test (eqb j i)
          (λ e. rw (eqb-true j i e, runs_own lat t' s t i long early m, le-ltb t' (t + lat (node EX i)) done, and-false) refl)
          (λ e. rw (runs_other lat t' s (node EX i) t j (λ q. eqb-false j i e (omega arith))) (none_free b lat t' s k f j l))

module _ (b : Block) (u : UnpackedBlock) (U : Unpacked b u.shape u.instructions) (l : List ℕ) where
  A : Ranges b
  A = ranges b U.accepted

  module _ (t : ℕ) (s ends : List ℕ) (long : length s ≡ 300) (w : Timed t s) (o : Units b (chosen b l) t s ends) (i : ℕ) (m : i < b.n) where
    abbrev lat : ℕ → ℕ
    lat = chosen b l

    -- the unit of i's EX
    abbrev k : ℕ
    k = (entry b i).kind

    unit : k < length ends
    unit = omega (arith, (A.instruction i m).kind, o.four)

    ex_own : (t' : ℕ) → t ≤ t' → get_or ends k 0 ≤ t → free b lat t' (set s (node EX i) t) k ≡ leb (get_or (set ends k (t + get_or l i 0)) k 0) t'
    ex_own t' a le =
        started_ex b lat t s (omega (arith, w.now)) i m (omega (arith, A.n.1)) t' a
        (o.free k t' a ∙ le-leb (get_or ends k 0) t' (omega arith))
        ∙ rw (chosen_ex b l i, get_or-set_same ends k (t + get_or l i 0) 0 unit) refl

    ex_other : (k' t' : ℕ) → t ≤ t' → (k' ≡ k → ⊥) → free b lat t' (set s (node EX i) t) k' ≡ leb (get_or (set ends k (t + get_or l i 0)) k' 0) t'
    ex_other k' t' a off =
        free_other b lat t' s (node EX i) t k'
        (λ j q e f. let same : j ≡ i = omega arith in off (sym e ∙ ap (λ x. (entry b x).kind) same))
        ∙ o.free k' t' a
        ∙ rw (get_or-set_other ends k k' (t + get_or l i 0) 0 off) refl

    start_ex : get_or ends k 0 ≤ t → Units b lat t (set s (node EX i) t) (set ends k (t + get_or l i 0))
    start_ex le =
        record {
          four = length-set ends k (t + get_or l i 0) ∙ o.four;
          free = λ k' t' a. by_test (eqb k' k) (λ e. rw (eqb-true k' k e) (ex_own t' a le)) (λ e. ex_other k' t' a (eqb-false k' k e));
        }

    start_other : (g : ℕ) → g < 5 → (g ≡ EX → ⊥) → Units b lat t (set s (node g i) t) ends
    start_other g q off =
        record {
          four = o.four;
          free = λ k' t' a. free_other b lat t' s (node g i) t k' (λ j x e f. off (omega arith)) ∙ o.free k' t' a;
        }

  -- a node that starts holds its unit until its finish
  pub units_start : (x : Turn) (s ends : List ℕ) → length s ≡ 300 → Timed x.t s → Units b (chosen b l) x.t s ends → x.i < b.n → number x.g < 5
      → starting u l x s ends ≡ true
      → Units b (chosen b l) x.t (set s (node_of x) x.t) (ended ends (number x.g) (kind_of u.instructions x.i) (get_or l x.i 0) x.t)
  unfolding ended starting from_when
  units_start x s ends long w o m q c =
      let t = x.t in
      let i = x.i in
      let g = number x.g in
      let e = get_or ends (kind_of u.instructions i) 0 in
      let kind = U.instructions.kind i m in
      let can : leb (pick (eqb g EX) (max (stage_ready u l s i g) e) (stage_ready u l s i g)) t ≡ true
      = and_right (not (started s (node g i))) _ c in
      by_test (eqb g EX)
      (λ f.
      let ex : g ≡ EX = eqb-true g EX f in
      let le : e ≤ t = omega (arith, leb-true (max (stage_ready u l s i g) e) t (rw f at can)) in
      rw (ex, kind) (start_ex t s ends long w o i m (rw kind at le)))
      (λ f. rw f (start_other t s ends long w o i m g q (eqb-false g EX f)))
