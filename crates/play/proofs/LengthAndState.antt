-- The length of the play of an accepted block, and the state after a cycle. Assumes nothing.
use Prim.Native.Nat.{ℕ, ◌+◌, ◌-◌, ◌*◌, ◌≤◌}
use mathlib.Core.Path.{◌≡◌, refl}
use mathlib.Core.List.{List, ◌++◌}
use native.Mathlib.Omega.{arith}
use lib.ListN.{get_or, get_or-append}
use Rattle.record.specs.Refusals.{block_verdict}
use Rattle.record.specs.declared.Block.{Block}
use Rattle.record.proofs.AcceptedRanges.{ranges}
use Rattle.model.specs.Nodes.{CM, node, nodes, chosen}
use Rattle.model.specs.Cycles.{State, turns, cycle, three_times, play_length, play_table}
use Rattle.model.proofs.TableNumbers.{play_at, length_plays}

module _ (b : Block) (z : block_verdict b ≡ (0, 0)) where
  pub some : 1 ≤ b.n
  some = (ranges b z).n.0

  -- its length is the last number of its table
  pub length_last : (l o out : List ℕ) → out ≡ play_table b (chosen b l) ++ o → get_or out (15 * b.n - 1) 0 ≡ play_length b (chosen b l)
  unfolding play_length three_times
  length_last l o out e =
      let lat = chosen b l in
      let v : 5 * b.n - 1 ≡ node CM (b.n - 1) = omega (arith, some) in
      let k : 15 * b.n - 1 ≡ 3 * (5 * b.n - 1) + 2 = omega (arith, some) in
      rw (
        e,
        get_or-append (play_table b lat) o 0 (15 * b.n - 1) (omega (arith, some, length_plays b lat)),
        k,
        play_at b lat (5 * b.n - 1) 2 (omega (arith, some)) (omega arith),
        v,
      )
      refl

-- the state after a cycle, by its two parts
pub cycled : (b : Block) (lat : ℕ → ℕ) (p : State) (t : ℕ) (s : List ℕ) → t ≡ p.t → s ≡ turns b lat t p.starts (nodes b)
    → ◌≡◌ {A = State} (record { t = p.t + 1; starts = s }) (cycle b lat p)
unfolding cycle
cycled b lat p t s e f = rw (f, e) refl
