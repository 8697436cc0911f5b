-- The numbers of the window table and of the play table, by node: at its place stands the number that the rule says. Assumes
-- nothing.
use Prim.Native.Nat.{ℕ, ◌/◌, ◌%◌, ◌<◌}
use mathlib.Core.Path.{◌≡◌, refl, ◌∙◌}
use mathlib.Core.List.{List, ◌++◌}
use native.Mathlib.Omega.{arith}
use lib.ListN.{length, get_or}
use Rattle.lists.proofs.JoinedPieces.{length_joined, get_or_joined}
use Rattle.record.specs.declared.Block.{Block}
use Rattle.model.specs.Nodes.{nodes, lowest, highest}
use Rattle.model.specs.Cycles.{play, three_times, play_place, play_numbers, play_table}
use Rattle.model.specs.Rounds.{earliest, windows, window_place, window_numbers, window_table}

module _ (b : Block) where
  -- the six numbers of node v
  abbrev pub six : ℕ → List ℕ
  six v = three_times b (lowest b) (earliest b) v ++ three_times b (highest b) (windows b).late v

  six_wide : (v : ℕ) → length (six v) ≡ 6
  unfolding three_times
  six_wide v = refl

  pub window_at : (v k : ℕ) → v < nodes b → k < 6 → get_or (window_table b) (window_place v k) 0 ≡ get_or (six v) k 0
  unfolding window_table
  window_at v k h q = get_or_joined 6 six six_wide 0 (nodes b) v k h q

  -- each place is one of those
  pub window_place_lem : (p : ℕ) → p < window_numbers b → (v k : ℕ) × (v < nodes b) × (k < 6) × (p ≡ window_place v k)
  window_place_lem p h = (p / 6, p % 6, omega arith, omega arith, omega arith)

  pub length_windows : length (window_table b) ≡ window_numbers b
  unfolding window_table
  length_windows = length_joined 6 six six_wide (nodes b) ∙ omega arith

  module _ (lat : ℕ → ℕ) where
    -- the three of the play
    abbrev pub three : ℕ → List ℕ
    three = three_times b lat (play b lat)

    three_wide : (v : ℕ) → length (three v) ≡ 3
    unfolding three_times
    three_wide v = refl

    pub play_at : (v k : ℕ) → v < nodes b → k < 3 → get_or (play_table b lat) (play_place v k) 0 ≡ get_or (three v) k 0
    unfolding play_table
    play_at v k h q = get_or_joined 3 three three_wide 0 (nodes b) v k h q

    pub length_plays : length (play_table b lat) ≡ play_numbers b
    unfolding play_table
    length_plays = length_joined 3 three three_wide (nodes b) ∙ omega arith
