-- The result record, from lists that have the model's numbers where the block has nodes. Assumes nothing.
use Prim.Native.Nat.{ℕ, ◌*◌, ◌+◌, ◌-◌, ◌<◌}
use mathlib.Core.Path.{◌∙◌, ◌≡◌, ap, refl}
use mathlib.Core.List.{◌++◌, List}
use native.Mathlib.Omega.{arith}
use lib.Dec.{ltb}
use lib.ListN.{drop, length, length-append}
use borrow.Author.Tests.{ltb-true}
use Rattle.lists.specs.Bytes.{bytes}
use Rattle.lists.specs.Lists.{joined, put}
use Rattle.lists.proofs.Bools.{by_test}
use Rattle.lists.proofs.JoinedPieces.{joined_ext, length_joined}
use Rattle.record.specs.Check.{check_of}
use Rattle.record.specs.Refusals.{block_verdict}
use Rattle.record.specs.declared.Block.{Block}
use Rattle.record.proofs.AcceptedRanges.{Ranges, ranges}
use Rattle.record.proofs.OutputVerdicts.{put_entries, put_seal}
use Rattle.model.specs.Cycles.{finish, start}
use Rattle.model.specs.Nodes.{CM, EX, node, nodes}
use Rattle.model.specs.Paths.{contending}
use Rattle.model.specs.Rounds.{apart_count, bound, earliest, pair_count, round_count, windows}
use Rattle.model.proofs.Latencies.{highest_ex, highest_else}
use Rattle.model.proofs.Limits.{round_limit}
use Rattle.model.proofs.RoundsEnd.{windows_settled}
use Rattle.unpacked.specs.declared.Instruction.{Instruction}
use Rattle.unpacked.specs.declared.Shape.{Shape}
use Rattle.unpacked.specs.inside.UnpackedBlock.{Instructions, Unpacked}
use Rattle.pairs.specs.inside.PairRows.{finish_ex}
use Rattle.rounds.specs.inside.BlockTimes.{TimesOf}
use Rattle.analysis.specs.Result.{four_of, head_of, result_record, result_body, result_entries, result_head, result_times, summary_of}
use Rattle.analysis.specs.declared.Summary.{Summary}
use Rattle.analysis.specs.inside.OutputSteps.{body_from, result_from, times_at}

pub length_times : (n : ℕ) (u : List Instruction) (early late : List ℕ) (i : ℕ) → length (times_at n u early late i) ≡ 8
unfolding times_at four_of bytes
length_times n u early late i = by_test (ltb i n) (λ t. rw t refl) (λ t. rw t refl)

-- ---- what the lists make is the block's
module _
    (b : Block) (h : Shape) (u : List Instruction) (early late : List ℕ) (U : Unpacked b h u)
    (es : TimesOf b (earliest b) early) (ls : TimesOf b (windows b).late late) where
  A : Ranges b
  A = ranges b U.accepted

  -- the last node
  last_node : 5 * h.n - 1 ≡ node CM (b.n - 1)
  last_node = omega (arith, A.n.0, U.shape.n)

  pub bound_is : start late (5 * h.n - 1) + 1 ≡ bound b
  unfolding bound finish
  bound_is =
      let c = node CM (b.n - 1) in
      rw (last_node, ls.at c (omega (arith, A.n.0)), highest_else b CM (b.n - 1) (omega arith) (λ q. omega arith) (λ q. omega arith)) refl

  pub bound_small : start late (5 * h.n - 1) < 65535
  unfolding finish
  bound_small =
      let v = node CM (b.n - 1) in
      let l : v < nodes b = omega (arith, A.n.0) in
      let e : start late (5 * h.n - 1) ≡ start (windows b).late v = ap (start late) last_node ∙ ls.at v l in
      let r = round_limit b A U.shape.most (contending b) (windows b).known v l in
      omega (arith, e, ap (λ (s : List ℕ). start s v) (windows_settled b).late, r, A.n.1)

  pub summary_is : (s : Summary) → (s.n ≡ b.n) × (s.origin ≡ b.origin) × (s.bound ≡ start late (5 * h.n - 1) + 1) × (s.number ≡ b.number)
      → (s.rounds ≡ round_count b) × (s.pairs ≡ pair_count b) × (s.apart ≡ apart_count b) → s ≡ summary_of b
  unfolding summary_of
  summary_is s (n, o, f, k) (r, p, a) = rw (n, o, f ∙ bound_is, k, r, p, a) refl

module _
    (b : Block) (u : List Instruction) (early late : List ℕ) (z : block_verdict b ≡ (0, 0)) (C : Instructions b u)
    (es : TimesOf b (earliest b) early) (ls : TimesOf b (windows b).late late) where
  entries_is : joined 60 (times_at b.n u early late) ≡ result_entries b
  unfolding times_at result_entries result_times finish_ex finish
  entries_is =
      joined_ext _ _ 60
      (λ i _.
      by_test (ltb i b.n)
      (λ t.
      let l : i < b.n = ltb-true i b.n t in
      rw (
        t,
        es.at (node EX i) (omega arith),
        ls.at (node EX i) (omega arith),
        ls.at (node CM i) (omega arith),
        C.high i l,
        highest_ex b i,
        highest_else b CM i (omega arith) (λ q. omega arith) (λ q. omega arith),
      )
      refl)
      (λ t. rw t refl))

  pub result_is : result_from (summary_of b) u early late ≡ result_record b
  unfolding result_from body_from result_record result_body result_head summary_of
  result_is = rw entries_is refl

-- ---- the output piece by piece
module _ (s : Summary) (u : List Instruction) (early late o : List ℕ) where
  length_head : length (head_of s) ≡ 28
  unfolding head_of bytes
  length_head = refl

  length_entries : length (joined 60 (times_at s.n u early late)) ≡ 480
  length_entries = length_joined 8 _ (length_times s.n u early late) 60

  length_body : length (body_from s u early late) ≡ 508
  unfolding body_from
  length_body = rw (length-append, length_head, length_entries) refl

  put_body : put (head_of s ++ drop 28 o) 28 (joined 60 (times_at s.n u early late)) ≡ body_from s u early late ++ drop 508 o
  unfolding body_from
  put_body = put_entries (head_of s) (joined 60 (times_at s.n u early late)) o length_head length_entries

  put_check : length o ≡ 512
      → put (body_from s u early late ++ drop 508 o) 508 (bytes 4 (check_of (body_from s u early late ++ drop 508 o))) ≡ result_from s u early late
  unfolding result_from
  put_check l = put_seal (body_from s u early late) o length_body l

  -- the header put, then the entries, then the check
  pub put_made : (head with-head with-times : List ℕ) → length o ≡ 512 → head ≡ head_of s → with-head ≡ head ++ drop 28 o
      → with-times ≡ put with-head 28 (joined 60 (times_at s.n u early late))
      → put with-times 508 (bytes 4 (check_of with-times)) ≡ result_from s u early late
  put_made head with-head with-times l h d e = rw (e, d, h, put_body) (put_check l)
