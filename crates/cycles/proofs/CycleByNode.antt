-- A cycle node by node: what a turn leaves, and the starts after the turns of the nodes before v. Assumes nothing.
use Prim.Native.Nat.{ℕ, ◌+◌, ◌≤◌, ◌<◌}
use mathlib.Core.Path.{◌≡◌, refl, ap, ◌∙◌}
use mathlib.Core.Bool.{Bool, true, false, and-false}
use mathlib.Core.List.{List}
use native.Mathlib.Numerals.{add-one}
use lib.ListN.{length, get_or, set, length-set}
use borrow.Author.Tests.{le-leb, lt-leb, ne_eqb}
use Rattle.lists.specs.Lists.{pick}
use Rattle.lists.proofs.Bools.{by_test}
use Rattle.record.specs.declared.Block.{Block}
use Rattle.model.specs.Nodes.{nodes, chosen}
use Rattle.model.specs.Cycles.{not_started, start, turns}
use Rattle.unpacked.specs.inside.UnpackedBlock.{kind_of, Unpacked}
use Rattle.unpacked.specs.declared.UnpackedBlock.{UnpackedBlock}
use Rattle.unpacked.specs.inside.StageNumbers.{number}
use Rattle.cycles.specs.inside.NodeTurn.{stage_ready, from_when, ended, node_of, starting, Turned}
use Rattle.cycles.specs.inside.PlayFacts.{Lent, Timed, Units}
use Rattle.cycles.specs.declared.Turn.{Turn}
use Rattle.cycles.proofs.NodeTest.{begins_starting}
use Rattle.cycles.proofs.UnitsHeld.{timed_start, units_start}
use Rattle.schedules.proofs.CycleTurns.{started_is, unstarted}

-- ---- one turn
module _ (u : UnpackedBlock) (l : List ℕ) (x : Turn) (s ends : List ℕ) where
  -- that of a node which does not start
  turned_not : starting u l x s ends ≡ false → Turned u l x s ends s ends
  turned_not e = record { starts = rw e refl; held = rw e refl }

  pub turned_started : node_of x < length s → (start s (node_of x) ≡ not_started → ⊥) → Turned u l x s ends s ends
  unfolding starting
  turned_started m n = turned_not (rw (started_is s (node_of x) m, ne_eqb (start s (node_of x)) not_started n) refl)

  -- r is its ready time, and it can start from f on
  module _ (r f k : ℕ) (is : r ≡ stage_ready u l s x.i (number x.g)) (unit : k ≡ kind_of u.instructions x.i) (from : f ≡ from_when (number x.g) r (get_or ends k 0)) where
    pub turned_later : x.t < f → Turned u l x s ends s ends
    unfolding starting
    turned_later m = turned_not (rw (← is, ← unit, ← from, lt-leb f x.t m, and-false) refl)

    pub turned_now : start s (node_of x) ≡ not_started → f ≤ x.t → (s' ends' : List ℕ)
        → s' ≡ set s (node_of x) x.t → ends' ≡ ended ends (number x.g) k (get_or l x.i 0) x.t → Turned u l x s ends s' ends'
    unfolding starting
    turned_now n m s' ends' p q =
        let e : starting u l x s ends ≡ true = rw (unstarted s (node_of x) n, ← is, ← unit, ← from, le-leb f x.t m) refl in
        record { starts = rw e p; held = rw (e, ← unit) q }

  -- what the next turn is lent
  pub turned_lent : (s' ends' : List ℕ) → Lent u l s → Turned u l x s ends s' ends' → Lent u l s'
  turned_lent s' ends' G T = record { list = G.list; long = same ∙ G.long }
    where
      same : length s' ≡ length s
      same = ap length T.starts ∙ by_test (starting u l x s ends) (λ e. rw (e, length-set) refl) (λ e. rw e refl)

-- ---- the turns of the nodes before v
pub record Passed (b : Block) (lat : ℕ → ℕ) (t : ℕ) (s₀ : List ℕ) (v : ℕ) (s ends : List ℕ) : Type 0 where
  pub long : length s ≡ 300
  pub is : s ≡ turns b lat t s₀ v
  pub timed : Timed t s
  pub held : Units b lat t s ends

pub passed_none : (b : Block) (lat : ℕ → ℕ) (t : ℕ) (s ends : List ℕ) → Timed t s → Units b lat t s ends → Passed b lat t s 0 s ends
unfolding turns
passed_none b lat t s ends w o = record { long = w.long; is = refl; timed = w; held = o }

pub passed_all : (b : Block) (lat : ℕ → ℕ) (t : ℕ) (s₀ : List ℕ) (v : ℕ) (s ends : List ℕ) → v ≡ nodes b → Passed b lat t s₀ v s ends
    → s ≡ turns b lat t s₀ (nodes b)
passed_all b lat t s₀ v s ends e p = p.is ∙ ap (turns b lat t s₀) e

module _ (b : Block) (u : UnpackedBlock) (U : Unpacked b u.shape u.instructions) (l : List ℕ) (x : Turn) (m : x.i < b.n) (k : number x.g < 5)
    (s₀ : List ℕ) (v : ℕ) (here : v ≡ node_of x) (s ends : List ℕ) (p : Passed b (chosen b l) x.t s₀ v s ends) where
  abbrev now : Bool
  now = starting u l x s ends

  abbrev s_then : List ℕ
  s_then = pick now (set s (node_of x) x.t) s

  abbrev ends_then : List ℕ
  ends_then = pick now (ended ends (number x.g) (kind_of u.instructions x.i) (get_or l x.i 0) x.t) ends

  turned_is : s_then ≡ turns b (chosen b l) x.t s₀ (v + 1)
  unfolding turns
  turned_is = rw (add-one, ← p.is, here, begins_starting b u U l x s ends p.timed p.held m k) refl

  turned : Passed b (chosen b l) x.t s₀ (v + 1) s_then ends_then
  turned =
      by_test now
      (λ e.
      record {
        long = rw (e, length-set) p.long;
        is = turned_is;
        timed = rw e (timed_start x.t s (node_of x) p.timed);
        held = rw e (units_start b u U l x s ends p.long p.timed p.held m k e);
      })
      (λ e. record { long = rw e p.long; is = turned_is; timed = rw e p.timed; held = rw e p.held })

  -- one turn more
  pub passed_more : (s' ends' : List ℕ) → Turned u l x s ends s' ends' → Passed b (chosen b l) x.t s₀ (v + 1) s' ends'
  passed_more s' ends' T = rw (T.starts, T.held) turned
