-- Each operation's promise, of a block that was read and accepted, makes its door's. Assumes nothing.
use Prim.Native.Nat.{ℕ, ◌*◌, ◌<◌}
use mathlib.Core.Path.{◌≡◌, refl}
use mathlib.Core.List.{List, [], ◌++◌}
use lib.ListN.{drop}
use Rattle.record.specs.Layout.{decoded, encoded}
use Rattle.std.specs.Prelude.{Result, Ok as Accepted, Err as Refused}
use Rattle.record.specs.Refusals.{Answer, number_of, place_of, meaning, write_tests, written}
use Rattle.record.specs.Promises.{Reads, Writes}
use Rattle.record.specs.declared.Block.{Block}
use Rattle.record.specs.declared.Reason.{Reason}
use Rattle.record.proofs.Answers.{refused_not}
use Rattle.record.proofs.RoundTrips.{reading_decoded}
use Rattle.model.specs.Nodes.{chosen}
use Rattle.model.specs.Cycles.{play_length, play_table}
use Rattle.model.specs.Rounds.{window_table}
use Rattle.analysis.specs.Result.{result_record, analyse_tests, window_tests, analysed, tabled}
use Rattle.analysis.specs.Promises.{Analyses, WritesWindows}
use Rattle.play.specs.Refusals.{list_tests, play_tests, length_tests}
use Rattle.play.specs.Promises.{played, Plays, GivesPlayLength}
use Rattle.exports.specs.Doors.{
  coded,
  RecodesBytes,
  AnalysesBytes,
  WindowsBytes,
  PlaysBytes,
  PlayLengthBytes,
}
use Rattle.exports.proofs.DoorVerdicts.{none_place, output_place, list_place, answer_place, door_done}

module _ (s : List ℕ) (b : Block) (x : Reads s (Accepted b)) where
  abbrev block : b ≡ decoded s
  block = reading_decoded s b x

  module _ (o o' : List ℕ) (a : Answer) where
    pub recode_place : Writes b o a o' → (meaning a).1 < 65536
    unfolding write_tests
    recode_place w =
        let v : Writes (decoded s) o a o' = rw block at w in
        answer_place s _ b x a v.answer (output_place _ [] none_place)

    pub recode_door : Writes b o a o' → (k : ℕ) → k ≡ coded (meaning a) → RecodesBytes s o k o'
    unfolding write_tests written
    recode_door w k f =
        let v : Writes (decoded s) o a o' = rw block at w in
        door_done s _ b x a v.answer (encoded (decoded s)) o o' k f v.output

    pub analyse_place : Analyses b o a o' → (meaning a).1 < 65536
    unfolding analyse_tests
    analyse_place w =
        let v : Analyses (decoded s) o a o' = rw block at w in
        answer_place s _ b x a v.answer (output_place _ [] none_place)

    pub analyse_door : Analyses b o a o' → (k : ℕ) → k ≡ coded (meaning a) → AnalysesBytes s o k o'
    unfolding analyse_tests analysed
    analyse_door w k f =
        let v : Analyses (decoded s) o a o' = rw block at w in
        door_done s _ b x a v.answer (result_record (decoded s)) o o' k f v.output

    pub windows_place : WritesWindows b o a o' → (meaning a).1 < 65536
    unfolding window_tests
    windows_place w =
        let v : WritesWindows (decoded s) o a o' = rw block at w in
        answer_place s _ b x a v.answer (output_place _ [] none_place)

    pub windows_door : WritesWindows b o a o' → (k : ℕ) → k ≡ coded (meaning a) → WindowsBytes s o k o'
    unfolding window_tests tabled
    windows_door w k f =
        let v : WritesWindows (decoded s) o a o' = rw block at w in
        door_done s _ b x a v.answer (window_table (decoded s) ++ drop (30 * (decoded s).n) o) o o' k f v.output

    pub play_place_lem : (l : List ℕ) → Plays b l o a o' → (meaning a).1 < 65536
    unfolding play_tests
    play_place_lem l w =
        let v : Plays (decoded s) l o a o' = rw block at w in
        answer_place s _ b x a v.answer (output_place _ (list_tests (decoded s) l) (list_place (decoded s) l v.whole.n))

    pub play_door : (l : List ℕ) → Plays b l o a o' → (k : ℕ) → k ≡ coded (meaning a) → PlaysBytes s l o k o'
    unfolding play_tests played
    play_door l w k f =
        let v : Plays (decoded s) l o a o' = rw block at w in
        door_done s _ b x a v.answer (play_table (decoded s) (chosen (decoded s) l) ++ drop (15 * (decoded s).n) o) o o' k f v.output

  module _ (l : List ℕ) where
    given : (y : Result ℕ Reason) → GivesPlayLength b l y → GivesPlayLength (decoded s) l y
    given y w = rw block at w

    pub length_place : (q : Reason) → GivesPlayLength b l (Refused q) → place_of q < 65536
    unfolding length_tests
    length_place q w =
        let v = given (Refused q) w in
        answer_place s _ b x {B = ℕ} (Refused q) v.answer (list_place (decoded s) l v.whole.n)

    -- at a refusal the number stays
    pub length_kept : (o : ℕ) (q : Reason) → GivesPlayLength b l (Refused q) → (k : ℕ) → k ≡ coded (number_of q, place_of q) → PlayLengthBytes s l o k o
    unfolding length_tests
    length_kept o q w k h =
        let v = given (Refused q) w in
        door_done s _ b x {B = ℕ} (Refused q) v.answer (play_length (decoded s) (chosen (decoded s) l)) o o k h (rw (← v.answer, refused_not q) refl)

    pub length_given : (o c : ℕ) → GivesPlayLength b l (Accepted c) → PlayLengthBytes s l o 0 c
    unfolding length_tests coded
    length_given o c w =
        let v = given (Accepted c) w in
        door_done s _ b x (Accepted c) v.answer (play_length (decoded s) (chosen (decoded s) l)) o c 0 refl (rw (← v.answer) v.cycles)
