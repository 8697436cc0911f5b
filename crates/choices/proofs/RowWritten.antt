-- The row of an instruction all of whose times are noted is the play table's, and the rows together are the table. Assumes nothing.
use Prim.Native.Nat.{ℕ, ◌+◌, ◌-◌, ◌*◌, ◌%◌, ◌<◌, max}
use mathlib.Core.Path.{◌≡◌, refl, sym, ◌∙◌}
use mathlib.Core.Bool.{true}
use mathlib.Core.List.{List, [], ◌∷◌, ◌++◌}
use native.Mathlib.Omega.{arith}
use lib.ListN.{length, get_or, drop}
use Rattle.lists.specs.Lists.{put}
use Rattle.lists.proofs.JoinedPieces.{pieces_in, pieces_none, pieces_more}
use Rattle.record.specs.declared.Block.{Block}
use Rattle.model.specs.Nodes.{IF, ID, EX, WB, CM, node, chosen}
use Rattle.model.specs.Cycles.{start, ready, three_times, play_place, play_numbers, play_table}
use Rattle.unpacked.specs.inside.ReadyByStage.{ready_ex}
use Rattle.choices.specs.inside.InstructionRows.{Playing}
use Rattle.choices.specs.inside.NoteSteps.{fixed, sources_of, Noted, row_into}
use Rattle.choices.specs.inside.PlayNotes.{starts, ends, Notes}
use Rattle.choices.proofs.PlayTimes.{off_ex, execute_ready, ends_one, ends_ex, write_end}
use Rattle.choices.specs.inside.InstructionRows.{row}
use Rattle.choices.specs.declared.Row.{Row}
use Rattle.choices.specs.declared.PlayNotes.{PlayNotes}
use Rattle.choices.proofs.StartChosen.{serves, start_most, sources_known}

same_three : (a b c a' b' c' : ℕ) → a ≡ a' → b ≡ b' → c ≡ c' → ◌≡◌ {A = List ℕ} (a ∷ b ∷ c ∷ []) (a' ∷ b' ∷ c' ∷ [])
same_three a b c a' b' c' e f g = rw (e, f, g) refl

module _ (b : Block) (l : List ℕ) where
  -- the three numbers of node v in the play
  abbrev three : ℕ → List ℕ
  three v = three_times b (chosen b l) (starts b l) v

  three_wide : (v : ℕ) → length (three v) ≡ 3
  unfolding three_times
  three_wide v = refl

  -- o with the three numbers of the first v nodes
  abbrev pub table_in : List ℕ → ℕ → List ℕ
  table_in o v = pieces_in 3 0 three o v

  pub table_none : (o : List ℕ) → o ≡ table_in o 0
  table_none o = pieces_none 3 0 three o

  table_more : (o t xs : List ℕ) (v v' : ℕ) → v' ≡ v + 1 → xs ≡ three v → t ≡ table_in o v → put t (play_place v 0) xs ≡ table_in o v'
  table_more o t xs v v' e g h = rw (e, g, h) (pieces_more 3 0 three o three_wide v (play_place v 0) (omega arith) (omega arith))

  pub table_all : (o : List ℕ) → table_in o (5 * b.n) ≡ play_table b (chosen b l) ++ drop (play_numbers b) o
  unfolding play_table
  table_all o = let e : 0 + 3 * (5 * b.n) ≡ play_numbers b = omega arith in rw e refl

  module _ (rows : List Row) (P : Playing b l rows) (c m : ℕ) (x : PlayNotes) (N : Notes b l (c + 1) m x) where
    abbrev s : List ℕ
    s = starts b l

    few : c < b.n
    few = omega (arith, N.past, N.few)

    has : fixed x c ≡ true
    has = N.passed c (omega arith)

    -- off EX ready and start are one
    three_off : (g : ℕ) → g < 5 → (g ≡ EX → ⊥) → three (node g c) ≡ start s (node g c) ∷ start s (node g c) ∷ ends b l (node g c) ∷ []
    unfolding three_times
    three_off g h ne =
        let e = off_ex b l rows P g c few h ne in rw (← e) refl

    -- and the node takes one cycle
    three_one : (g y : ℕ) → g < 5 → (g ≡ EX → ⊥) → y ≡ ends b l (node g c) → (y - 1) ∷ (y - 1) ∷ y ∷ [] ≡ three (node g c)
    three_one g y h ne e =
        let f : y - 1 ≡ start s (node g c) = omega (arith, e, ends_one b l rows P g c h ne) in
        same_three _ _ _ _ _ _ f f e ∙ sym (three_off g h ne)

    -- ---- the notes of c
    fetch_at : get_or x.fetch (32 + c) 0 ≡ start s (node IF c)
    fetch_at = N.off_ex.fetch.each c (omega (arith, N.past))

    fetched_at : get_or x.fetched (32 + c) 0 ≡ ends b l (node IF c)
    fetched_at = N.off_ex.fetched.each c (omega (arith, N.past))

    decoded_at : get_or x.decoded (32 + c) 0 ≡ ends b l (node ID c)
    decoded_at = N.off_ex.decoded.each c (omega (arith, N.past))

    written_at : get_or x.written (c + 1) 0 ≡ ends b l (node WB c)
    written_at = (N.fixes.written c few has).0

    committed_at : get_or x.committed (32 + c) 0 ≡ ends b l (node CM c)
    committed_at = N.off_ex.committed.each c (omega arith)

    three_fetch : get_or x.fetch (32 + c) 0 ∷ get_or x.fetch (32 + c) 0 ∷ get_or x.fetched (32 + c) 0 ∷ [] ≡ three (node IF c)
    three_fetch = same_three _ _ _ _ _ _ fetch_at fetch_at fetched_at ∙ sym (three_off IF (omega arith) (λ e. omega arith))

    ready_at : max (get_or x.decoded (32 + c) 0) (sources_of rows x c) ≡ ready b (chosen b l) s (node EX c)
    unfolding ready_ex
    ready_at =
        rw (decoded_at, ends_one b l rows P ID c (omega arith) (λ e. omega arith), sources_known b l rows P (c + 1) m x N c (omega arith) few)
        (sym (execute_ready b l rows P c))

    three_execute : (max (get_or x.decoded (32 + c) 0) (sources_of rows x c) % 65536) ∷ (get_or x.written (c + 1) 0 - 1 - (row rows c).latency) ∷ (get_or x.written (c + 1) 0 - 1) ∷ []
        ≡ three (node EX c)
    unfolding three_times
    three_execute =
        let r = (serves b l rows P).ready c few in
        let t = start_most b l rows P c few in
        let w = write_end b l rows P c few in
        let y = P.has.takes c few in
        same_three _ _ _ _ _ _ (omega (arith, ready_at, r, t)) (omega (arith, written_at, w, y)) (omega (arith, written_at, w, ends_ex b l rows P c))

    -- THE ROW OF c
    pub row_table : (o t : List ℕ) → t ≡ table_in o (5 * c) → row_into rows x c t ≡ table_in o (5 * (c + 1))
    unfolding row_into
    row_table o t e =
        let first : node IF c ≡ 5 * c = omega arith in
        table_more o _ _ (node CM c) (5 * (c + 1)) (omega arith)
        (three_one CM (get_or x.committed (32 + c) 0) (omega arith) (λ e. omega arith) committed_at)
        (table_more o _ _ (node WB c) (node CM c) (omega arith)
        (three_one WB (get_or x.written (c + 1) 0) (omega arith) (λ e. omega arith) written_at)
        (table_more o _ _ (node EX c) (node WB c) (omega arith) three_execute
        (table_more o _ _ (node ID c) (node EX c) (omega arith)
        (three_one ID (get_or x.decoded (32 + c) 0) (omega arith) (λ e. omega arith) decoded_at)
        (table_more o t _ (node IF c) (node ID c) (omega arith) three_fetch (rw first e)))))

    -- ---- what the code takes away is there
    pub row_noted : Noted rows x c
    row_noted =
        record {
          decoded = omega (arith, decoded_at, ends_one b l rows P ID c (omega arith) (λ e. omega arith));
          written = omega (arith, written_at, write_end b l rows P c few, P.has.takes c few);
          committed = omega (arith, committed_at, ends_one b l rows P CM c (omega arith) (λ e. omega arith));
        }
