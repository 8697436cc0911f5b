-- A node that is ready by a time is so later; and what runs at a time, as a test and as facts. Assumes nothing.
use Prim.Native.Nat.{ℕ, ◌+◌, ◌≤◌, ◌<◌}
use mathlib.Core.Path.{◌≡◌}
use mathlib.Core.Bool.{true}
use native.Mathlib.Omega.{arith}
use lib.Dec.{leb, ltb}
use borrow.Author.Tests.{leb-true, le-leb, ltb-true, lt-ltb, eqb-true, eq-eqb}
use Rattle.lists.specs.Lists.{pick}
use Rattle.lists.proofs.Bools.{by_test, and_left, and_right, and_both}
use Rattle.schedules.specs.inside.Nets.{Net, Done, peer, busy, Busy}

pub done_mono : (G : Net) (lat s : ℕ → ℕ) (v x y : ℕ) → x ≤ y → Done G lat s v x → Done G lat s v y
done_mono G lat s v x y l d = record { fin = λ u e. omega (arith, d.fin u e); ord = λ u e. omega (arith, d.ord u e) }

-- x lies before t, or at t where u stands before v: as a test and as facts
pub tie_begun : (u v x t : ℕ) → leb (x + pick (leb v u) 1 0) t ≡ true → x ≤ t
tie_begun u v x t h = omega (arith, leb-true (x + pick (leb v u) 1 0) t h)

pub tie_le : (u v x t : ℕ) → leb (x + pick (leb v u) 1 0) t ≡ true → v ≤ u → x < t
tie_le u v x t h l = let e = le-leb v u l in omega (arith, leb-true (x + 1) t (rw e at h))

pub le_tie : (u v x t : ℕ) → x ≤ t → (v ≤ u → x < t) → leb (x + pick (leb v u) 1 0) t ≡ true
le_tie u v x t h tie =
    by_test (leb v u)
    (λ e. rw e (le-leb (x + 1) t (omega (arith, tie (leb-true v u e)))))
    (λ e. rw e (le-leb (x + 0) t (omega arith)))

pub busy→ : (G : Net) (lat s : ℕ → ℕ) (v t u : ℕ) → busy G lat s v t u ≡ true → Busy G lat s v t u
unfolding busy
busy→ G lat s v t u h =
    let p = and_left (peer G v u) _ h in
    let q = and_right (peer G v u) _ h in
    let r = and_right (ltb t (s u + lat u)) _ q in
    record {
      ex = and_left (G.ex u) _ p;
      same = eqb-true _ _ (and_right (G.ex u) _ p);
      runs = ltb-true _ _ (and_left (ltb t (s u + lat u)) _ q);
      begun = tie_begun u v (s u) t r;
      tie = tie_le u v (s u) t r;
    }

pub →busy : (G : Net) (lat s : ℕ → ℕ) (v t u : ℕ) → Busy G lat s v t u → busy G lat s v t u ≡ true
unfolding busy
→busy G lat s v t u b =
    and_both (peer G v u) _
    (and_both (G.ex u) _ b.ex (eq-eqb _ _ b.same))
    (and_both (ltb t (s u + lat u)) _ (lt-ltb _ _ b.runs) (le_tie u v (s u) t b.begun b.tie))
