-- The four numbers that the result record has for each instruction are times of the model, whole, and every play keeps them.
-- Assumes nothing.
use Prim.Native.Nat.{ℕ, zero, suc, ◌+◌, ◌*◌, ◌≤◌, ◌<◌}
use mathlib.Core.Path.{◌≡◌, refl, ◌∙◌}
use mathlib.Core.List.{List, [], ◌∷◌}
use native.Mathlib.Omega.{arith}
use native.Mathlib.Nat.{zero-add, add-zero}
use lib.ListN.{length, get_or, replicate, length-append, get_or-append}
use lib.Seq.{get_or-append-add}
use lib.Dec.{ltb}
use borrow.Author.Tests.{lt-ltb}
use Rattle.lists.specs.Lists.{pick, joined}
use Rattle.lists.specs.Bytes.{little, bytes}
use Rattle.lists.proofs.Bools.{by_test}
use Rattle.lists.proofs.JoinedPieces.{length_joined, get_or_joined}
use Rattle.lists.proofs.Little.{length_bytes, little_ext, little_bytes}
use Rattle.record.specs.Check.{check_of}
use Rattle.record.specs.Refusals.{Answer}
use Rattle.std.specs.Prelude.{Ok as Accepted}
use Rattle.record.specs.declared.Block.{Block}
use Rattle.record.proofs.Answers.{accepted_so}
use Rattle.record.proofs.AcceptedRanges.{ranges}
use Rattle.model.specs.Nodes.{EX, CM, nodes, node, entry, highest, chosen}
use Rattle.model.specs.Cycles.{cycles_each, start, finish, three_times, play_place, play_numbers}
use Rattle.model.specs.Rounds.{earliest, windows}
use Rattle.model.proofs.TableNumbers.{three, play_at}
use Rattle.model.proofs.Limits.{earliest_limit, windows_limit}
use Rattle.analysis.specs.Result.{head_of, result_head, four_of, result_times, result_entries, result_body, result_record}
use Rattle.analysis.specs.Promises.{Analyses}
use Rattle.play.specs.Promises.{Plays}
use Rattle.play.proofs.Outcomes.{play_fine}
use Rattle.theorems.specs.Words.{AcceptedBlock, AcceptedList, Inside, TimesKept}
use Rattle.theorems.proofs.PlaysInside.{play_inside, chosen_fits}
use Rattle.theorems.proofs.TablesWithin.{play_kept}
use Rattle.theorems.proofs.ResultBytes.{analysed_result}

-- "EX earliest start, EX latest start, EX latest finish, CM latest finish" of instruction i
abbrev pub four_times : Block → ℕ → List ℕ
four_times b i =
    start (earliest b) (node EX i)
    ∷ start (windows b).late (node EX i)
    ∷ finish (highest b) (windows b).late (node EX i)
    ∷ finish (highest b) (windows b).late (node CM i)
    ∷ []

-- ---- their bytes in the result record
module _ (b : Block) where
  -- the eight bytes of instruction i
  abbrev eight : ℕ → List ℕ
  eight i = pick (ltb i b.n) (result_times b (earliest b) (windows b).late i) (replicate 8 0)

  length_eight : (i : ℕ) → length (eight i) ≡ 8
  unfolding result_times four_of bytes
  length_eight i = by_test (ltb i b.n) (λ t. rw t refl) (λ t. rw t refl)

  length_head : length (result_head b) ≡ 28
  unfolding result_head head_of bytes
  length_head = refl

  length_entries : length (result_entries b) ≡ 480
  unfolding result_entries
  length_entries = length_joined 8 eight length_eight 60

  -- byte k of them
  entry_byte_lem : (i k : ℕ) → i < 60 → k < 8 → get_or (result_record b) (28 + (8 * i + k)) 0 ≡ get_or (eight i) k 0
  unfolding result_record result_body result_entries
  entry_byte_lem i k h q =
      get_or-append (result_body b) (bytes 4 (check_of (result_body b))) 0 (28 + (8 * i + k)) (rw (length-append, length_head, length_entries) (omega arith))
      ∙ (rw (← length_head) (get_or-append-add (result_head b) (result_entries b) (8 * i + k) 0))
      ∙ get_or_joined 8 eight length_eight 0 60 i k h q

  -- byte j of number k
  number_byte : (i k j : ℕ) → i < b.n → k < 4 → j < 2 → get_or (eight i) (2 * k + j) 0 ≡ get_or (bytes 2 (get_or (four_times b i) k 0)) j 0
  unfolding result_times four_of joined bytes
  number_byte i k j h q m =
      rw (lt-ltb i b.n h)
      (get_or_joined 2 (λ k. bytes 2 (get_or (four_times b i) k 0)) (λ k. length_bytes 2 (get_or (four_times b i) k 0)) 0 4 k j q m)

  module _ (accepted : AcceptedBlock b) (cap : (i : ℕ) → (entry b i).hi ≤ 255) where
    -- none exceeds 513 × n cycles, so each has 16 bits
    four_limit : (i k : ℕ) → i < b.n → k < 4 → get_or (four_times b i) k 0 ≤ cycles_each * b.n
    unfolding finish
    four_limit i zero h q = omega (arith, earliest_limit b (ranges b accepted) cap (node EX i) (omega arith))
    four_limit i (suc zero) h q = omega (arith, windows_limit b (ranges b accepted) cap (node EX i) (omega arith))
    four_limit i (suc (suc zero)) h q = omega (arith, windows_limit b (ranges b accepted) cap (node EX i) (omega arith))
    four_limit i (suc (suc (suc zero))) h q = omega (arith, windows_limit b (ranges b accepted) cap (node CM i) (omega arith))
    four_limit i (suc (suc (suc (suc k)))) h q = absurd (omega arith)

    -- THE RESULT RECORD CARRIES THEM
    pub times_bytes : (i k : ℕ) → i < b.n → k < 4 → little 2 (result_record b) (28 + 8 * i + 2 * k) ≡ get_or (four_times b i) k 0
    times_bytes i k h q =
        let few = (ranges b accepted).n.1 in
        little_ext 2 (result_record b) (bytes 2 (get_or (four_times b i) k 0)) (28 + 8 * i + 2 * k) 0
        (λ j m.
        let e : 28 + 8 * i + 2 * k + j ≡ 28 + (8 * i + (2 * k + j)) = omega arith in
        rw (e, zero-add j) (entry_byte_lem i (2 * k + j) (omega arith) (omega arith) ∙ number_byte i k j h q m))
        ∙ little_bytes 2 (get_or (four_times b i) k 0) (omega (arith, four_limit i k h q))

-- ---- EVERY PLAY KEEPS THEM
pub times_kept : (b : Block) (l o o' : List ℕ) (a : Answer) → Analyses b o a o' → a ≡ Accepted tt
    → (q q' : List ℕ) (c : Answer) → Plays b l q c q' → c ≡ Accepted tt → (i : ℕ) → i < b.n → TimesKept o' q' i
unfolding three_times
times_kept b l o o' a x e q q' c y f i h =
    let ex : node EX i < nodes b = omega arith in
    let cm : node CM i < nodes b = omega arith in
    record {
      starts =
          rw (rw add-zero at (carried 0 (omega arith)), carried 1 (omega arith), written (node EX i) 1 ex (omega arith))
          (inside (node EX i) ex).start_in;
      finishes = rw (carried 2 (omega arith), written (node EX i) 2 ex (omega arith)) (inside (node EX i) ex).finish_in.to;
      commits = rw (carried 3 (omega arith), written (node CM i) 2 cm (omega arith)) (inside (node CM i) cm).finish_in.to;
    }
  where
    cap : (i : ℕ) → (entry b i).hi ≤ 255
    cap i = (x.whole.each i).hi

    fine : AcceptedBlock b × (play_numbers b ≤ length q) × AcceptedList b l
    fine = play_fine b l q (accepted_so c f y.answer)

    carried : (k : ℕ) → k < 4 → little 2 o' (28 + 8 * i + 2 * k) ≡ get_or (four_times b i) k 0
    carried k m = rw (analysed_result b o o' a x e) (times_bytes b fine.0 cap i k h m)

    written : (v k : ℕ) → v < nodes b → k < 3 → get_or q' (play_place v k) 0 ≡ get_or (three b (chosen b l) v) k 0
    written v k m n = play_kept b l q q' c y f (play_place v k) (omega arith) ∙ play_at b (chosen b l) v k m n

    inside : (v : ℕ) → v < nodes b → Inside b (chosen b l) v
    inside = play_inside b fine.0 cap (chosen b l) (chosen_fits b fine.0 l fine.2)
