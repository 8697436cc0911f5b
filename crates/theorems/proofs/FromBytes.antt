-- From byte to theorem: what the doors for C and Rust wrote keeps the theorems too, by their promises and the answer 0 alone.
-- Assumes nothing.
use Prim.Native.Nat.{ℕ, ◌+◌, ◌≤◌, ◌<◌}
use mathlib.Core.Path.{◌≡◌, refl}
use mathlib.Core.List.{List}
use lib.ListN.{get_or}
use Rattle.lists.specs.Bytes.{little}
use Rattle.record.specs.Layout.{decoded}
use Rattle.std.specs.Prelude.{Ok as Accepted}
use Rattle.model.specs.Nodes.{nodes}
use Rattle.model.specs.Cycles.{play_place}
use Rattle.model.specs.Rounds.{window_place}
use Rattle.exports.specs.Doors.{AnalysesBytes, WindowsBytes, PlaysBytes, PlayLengthBytes}
use Rattle.exports.proofs.Outcomes.{analyse_opens, windows_opens, play_opens, play_length_opens}
use Rattle.theorems.specs.Words.{Within, TimesKept}
use Rattle.theorems.proofs.ResultBytes.{analysed_result, copied_number, copied_origin}
use Rattle.theorems.proofs.OutcomesInside.{written_within, given_bound}
use Rattle.theorems.proofs.RecordTimes.{times_kept}

module _ (s : List ℕ) where
  -- byte 5 of the result record is byte 10 of the block record, bytes 8 to 11 are its bytes 12 to 15
  pub bytes_origin : (o o' : List ℕ) → AnalysesBytes s o 0 o' → (get_or o' 5 0 ≡ get_or s 10 0) × ((k : ℕ) → k < 4 → get_or o' (8 + k) 0 ≡ get_or s (12 + k) 0)
  bytes_origin o o' u =
      rw (analysed_result (decoded s) o o' (Accepted tt) (analyse_opens s o o' u) refl) (copied_origin s u.bytes, copied_number s u.bytes)

  module _ (l : List ℕ) where
    -- what a play writes lies within what the windows have
    pub bytes_inside : (o o' q q' : List ℕ) → WindowsBytes s o 0 o' → PlaysBytes s l q 0 q' → (v k : ℕ) → v < nodes (decoded s) → k < 3
        → Within (get_or o' (window_place v k) 0) (get_or q' (play_place v k) 0) (get_or o' (window_place v (3 + k)) 0)
    bytes_inside o o' q q' u w = written_within (decoded s) l o o' (Accepted tt) (windows_opens s o o' u) refl q q' (Accepted tt) (play_opens s q q' l w) refl

    -- and within the times of the result record
    pub bytes_times : (o o' q q' : List ℕ) → AnalysesBytes s o 0 o' → PlaysBytes s l q 0 q' → (i : ℕ) → i < (decoded s).n → TimesKept o' q' i
    bytes_times o o' q q' u w = times_kept (decoded s) l o o' (Accepted tt) (analyse_opens s o o' u) refl q q' (Accepted tt) (play_opens s q q' l w) refl

    -- the length of a play is at most the bound in bytes 6 and 7
    pub bytes_bound : (o o' : List ℕ) (p p' : ℕ) → AnalysesBytes s o 0 o' → PlayLengthBytes s l p 0 p' → p' ≤ little 2 o' 6
    bytes_bound o o' p p' u w = given_bound (decoded s) l o o' (Accepted tt) (analyse_opens s o o' u) refl p' (play_length_opens s l p p' w)
