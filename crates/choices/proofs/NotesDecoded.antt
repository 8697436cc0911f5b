-- What is off EX follows from the notes: IF and ID of the next instruction, and CM of the next that has a WB. Assumes nothing.
use Prim.Native.Nat.{ℕ, ◌+◌, ◌-◌, ◌%◌, ◌≤◌, ◌<◌, max}
use mathlib.Core.Path.{◌≡◌, sym, ap, ◌∙◌}
use mathlib.Core.Bool.{true}
use mathlib.Core.List.{List}
use native.Mathlib.Omega.{arith}
use lib.ListN.{get_or, length-set}
use borrow.Author.Count.{below_more}
use lib.Dec.{leb}
use Rattle.lists.specs.Lists.{pick}
use Rattle.lists.proofs.Bools.{by_test}
use Rattle.record.specs.declared.Block.{Block}
use Rattle.record.proofs.AcceptedRanges.{Ranges, ranges}
use Rattle.model.specs.Nodes.{IF, ID, EX, WB, CM, node, fetch}
use Rattle.model.specs.Cycles.{start}
use Rattle.unpacked.specs.inside.ReadyByStage.{finish_back, start_back, ready_if, ready_id, ready_cm}
use Rattle.unpacked.specs.inside.UnpackedBlock.{Shapes}
use Rattle.unpacked.specs.declared.Shape.{Shape}
use Rattle.choices.specs.inside.InstructionRows.{Playing}
use Rattle.choices.specs.inside.NoteSteps.{fixed, fetch_of, decoded_of, committed_of, decoded_into, committed_into}
use Rattle.choices.specs.inside.PlayNotes.{Times, starts, ends, Notes}
use Rattle.choices.proofs.NoteTimes.{times_back, times_more}
use Rattle.choices.proofs.PlayTimes.{fetch_start, decode_start, commit_start, ends_one, ends_fetch, ends_most}
use Rattle.choices.specs.declared.Row.{Row}
use Rattle.choices.specs.declared.PlayNotes.{PlayNotes}
use Rattle.choices.proofs.StartsKept.{starts_more, starts_same}

module _ (b : Block) (l : List ℕ) (rows : List Row) (P : Playing b l rows) (h : Shape) (H : Shapes b h) where
  abbrev A : Ranges b
  A = ranges b P.accepted

  abbrev s : List ℕ
  s = starts b l

  -- finishes, so many places back
  finish_back_lem : (y : List ℕ) (m g i k p : ℕ) → Times y m (λ j. ends b l (node g j)) → g < 5 → (g ≡ EX → ⊥)
      → k ≤ 32 → (k ≤ i → i - k < m) → p ≡ 32 + i - k → get_or y p 0 ≡ finish_back s g 1 k i
  unfolding finish_back
  finish_back_lem y m g i k p L five ne small some e =
      times_back y m (λ j. ends b l (node g j)) L i k p small some e
      ∙ ap (λ (y : ℕ). pick (leb k i) y 0) (ends_one b l rows P g (i - k) five ne)

  -- where a node takes one cycle, its finish by the finish of the one before it is its start by the start of that, and one
  one_later : (g i a : ℕ) → max (a + 1) (finish_back s g 1 1 i) ≡ max a (start_back s g i) + 1
  unfolding finish_back start_back
  one_later g i a = by_test (leb 1 i) (λ t. rw t (omega arith)) (λ t. rw t (omega arith))

  module _ (c m : ℕ) (x : PlayNotes) (N : Notes b l c m x) where
    module _ (y : ℕ) (takes : y ≡ fetch) (some : m < b.n) (near : m < c + b.w) where
      fetch_is : fetch_of h m x ≡ start s (node IF m)
      unfolding fetch_of ready_if start_back
      fetch_is =
          rw (
            finish_back_lem x.decoded m ID m b.q (32 + m - h.q) N.off_ex.decoded (omega arith) (λ e. omega arith)
                (omega (arith, A.q.1)) (λ k. omega (arith, A.q.0)) (omega (arith, H.q)),
            finish_back_lem x.fetched m IF m b.f (32 + m - h.f) N.off_ex.fetched (omega arith) (λ e. omega arith)
                (omega (arith, A.f.1)) (λ k. omega (arith, A.f.0)) (omega (arith, H.f)),
            times_back x.fetch m (λ i. start s (node IF i)) N.off_ex.fetch m 1 (32 + m - 1) (omega arith) (λ k. omega arith) (omega arith),
          )
          (sym (fetch_start b l rows P m some))

      fetched_is : fetch_of h m x + y ≡ ends b l (node IF m)
      fetched_is = omega (arith, fetch_is, takes, ends_fetch b l rows P m)

      decoded_is : decoded_of h m (fetch_of h m x + y) x ≡ ends b l (node ID m)
      unfolding decoded_of ready_id
      decoded_is =
          rw (
            fetched_is,
            ends_fetch b l rows P m,
            finish_back_lem x.committed c CM m b.w (32 + m - h.w) N.off_ex.committed (omega arith) (λ e. omega arith)
                (omega (arith, A.w.1)) (λ k. omega arith) (omega (arith, H.w)),
            finish_back_lem x.decoded m ID m b.d (32 + m - h.d) N.off_ex.decoded (omega arith) (λ e. omega arith)
                (omega (arith, A.d.1)) (λ k. omega (arith, A.d.0)) (omega (arith, H.d)),
            finish_back_lem x.decoded m ID m 1 (32 + m - 1) N.off_ex.decoded (omega arith) (λ e. omega arith) (omega arith) (λ k. omega arith) (omega arith),
          )
          (one_later ID m (max (start s (node IF m) + fetch) (max (finish_back s CM 1 b.w m) (finish_back s ID 1 b.d m)))
          ∙ sym (ends_one b l rows P ID m (omega arith) (λ e. omega arith) ∙ ap (λ (y : ℕ). y + 1) (decode_start b l rows P m some)))

      -- IF AND ID OF THE NEXT INSTRUCTION, whose fetch takes y
      pub notes_decoded : Notes b l c (m + 1) (decoded_into h y m x)
      unfolding decoded_into
      notes_decoded =
          let F : ℕ = fetch_of h m x in
          let D : ℕ = decoded_of h m (F + y) x in
          let f : F % 65536 ≡ start s (node IF m)
          = omega (arith, fetch_is, ends_fetch b l rows P m, ends_most b l rows P IF m (omega arith) some) in
          let g : (F + y) % 65536 ≡ ends b l (node IF m)
          = omega (arith, fetched_is, ends_most b l rows P IF m (omega arith) some) in
          let d : D % 65536 ≡ ends b l (node ID m) = omega (arith, decoded_is, ends_most b l rows P ID m (omega arith) some) in
          let n = A.n.1 in
          record {
            places = N.places;
            sixty = length-set x.waiting m (D % 65536) ∙ N.sixty;
            kinds = N.kinds;
            past = omega (arith, N.past);
            few = omega arith;
            off_ex =
                record {
                  fetch = times_more x.fetch m _ N.off_ex.fetch (F % 65536) (omega arith) f;
                  fetched = times_more x.fetched m _ N.off_ex.fetched ((F + y) % 65536) (omega arith) g;
                  decoded = times_more x.decoded m _ N.off_ex.decoded (D % 65536) (omega arith) d;
                  committed = N.off_ex.committed;
                };
            fixes = starts_more b l m x N.fixes _ _ _ _ (D % 65536) some (omega (arith, N.sixty)) d;
            passed = N.passed;
          }

    module _ (some : c < m) (has : fixed x c ≡ true) where
      -- ---- CM of the next instruction, whose EX has a start
      few : c < b.n
      few = omega (arith, N.few)

      committed_is : committed_of h c x ≡ ends b l (node CM c)
      unfolding committed_of ready_cm
      committed_is =
          rw (
            (N.fixes.written c few has).0,
            ends_one b l rows P WB c (omega arith) (λ e. omega arith),
            finish_back_lem x.committed c CM c b.c (32 + c - h.c) N.off_ex.committed (omega arith) (λ e. omega arith)
                (omega (arith, A.c.1)) (λ k. omega (arith, A.c.0)) (omega (arith, H.c)),
            finish_back_lem x.committed c CM c 1 (32 + c - 1) N.off_ex.committed (omega arith) (λ e. omega arith) (omega arith) (λ k. omega arith) (omega arith),
          )
          (one_later CM c (max (start s (node WB c) + 1) (finish_back s CM 1 b.c c))
          ∙ sym (ends_one b l rows P CM c (omega arith) (λ e. omega arith) ∙ ap (λ (y : ℕ). y + 1) (commit_start b l rows P c few)))

      pub notes_committed : Notes b l (c + 1) m (committed_into h c x)
      unfolding committed_into
      notes_committed =
          let C : ℕ = committed_of h c x in
          let v : C % 65536 ≡ ends b l (node CM c) = omega (arith, committed_is, ends_most b l rows P CM c (omega arith) few) in
          let n = A.n.1 in
          record {
            places = N.places;
            sixty = N.sixty;
            kinds = N.kinds;
            past = omega arith;
            few = N.few;
            off_ex =
                record {
                  fetch = N.off_ex.fetch;
                  fetched = N.off_ex.fetched;
                  decoded = N.off_ex.decoded;
                  committed = times_more x.committed c _ N.off_ex.committed (C % 65536) (omega arith) v;
                };
            fixes = starts_same b l m x N.fixes _ _ _ _;
            passed = below_more (λ i. fixed x i ≡ true) c N.passed has;
          }
