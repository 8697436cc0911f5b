-- What a result record carries: its block's origin, number and bound; and what a block record gives to it. Assumes nothing.
use Prim.Native.Nat.{ℕ, zero, suc, ◌+◌, ◌<◌}
use mathlib.Core.Path.{◌≡◌, refl, ◌∙◌}
use mathlib.Core.List.{List}
use native.Mathlib.Omega.{arith}
use native.Mathlib.Nat.{zero-add}
use lib.ListN.{get_or}
use Rattle.lists.specs.Bytes.{little, bytes}
use Rattle.lists.proofs.Little.{little_ext, little_bytes, bytes_little}
use Rattle.record.specs.Layout.{decoded}
use Rattle.record.specs.Promises.{ByteString, Whole}
use Rattle.record.specs.Refusals.{Answer}
use Rattle.std.specs.Prelude.{Ok as Accepted}
use Rattle.record.specs.declared.Block.{Block}
use Rattle.model.specs.Rounds.{bound}
use Rattle.analysis.specs.Result.{head_of, result_head, result_body, result_record, summary_of, analysed}
use Rattle.analysis.specs.Promises.{Analyses}
use Rattle.record.proofs.Answers.{accepted_so}

-- ---- bytes of the result record
module _ (b : Block) where
  pub origin_byte : get_or (result_record b) 5 0 ≡ b.origin
  unfolding result_record result_body result_head head_of summary_of
  origin_byte = refl

  bound_byte : (k : ℕ) → k < 2 → get_or (result_record b) (6 + k) 0 ≡ get_or (bytes 2 (bound b)) k 0
  unfolding result_record result_body result_head head_of summary_of bytes
  bound_byte zero h = refl
  bound_byte (suc zero) h = refl
  bound_byte (suc (suc k)) h = absurd (omega arith)

  number_byte : (k : ℕ) → k < 4 → get_or (result_record b) (8 + k) 0 ≡ get_or (bytes 4 b.number) k 0
  unfolding result_record result_body result_head head_of summary_of bytes
  number_byte zero h = refl
  number_byte (suc zero) h = refl
  number_byte (suc (suc zero)) h = refl
  number_byte (suc (suc (suc zero))) h = refl
  number_byte (suc (suc (suc (suc k)))) h = absurd (omega arith)

  pub bound_bytes : bound b < 65536 → little 2 (result_record b) 6 ≡ bound b
  bound_bytes h = little_ext 2 (result_record b) (bytes 2 (bound b)) 6 0 (λ k q. rw zero-add (bound_byte k q)) ∙ little_bytes 2 (bound b) h

  pub number_bytes : Whole b → little 4 (result_record b) 8 ≡ b.number
  number_bytes w = little_ext 4 (result_record b) (bytes 4 b.number) 8 0 (λ k q. rw zero-add (number_byte k q)) ∙ little_bytes 4 b.number w.number

-- an accepted analysis leaves the result record
pub analysed_result : (b : Block) (o o' : List ℕ) (a : Answer) → Analyses b o a o' → a ≡ Accepted tt → o' ≡ result_record b
unfolding analysed
analysed_result b o o' a x e = x.output ∙ (rw (accepted_so a e x.answer) refl)

-- ---- from a block record
module _ (s : List ℕ) (u : ByteString s) where
  pub copied_number : (k : ℕ) → k < 4 → get_or (result_record (decoded s)) (8 + k) 0 ≡ get_or s (12 + k) 0
  unfolding decoded
  copied_number k h = number_byte (decoded s) k h ∙ bytes_little 4 s 12 u.byte k h

  pub copied_origin : get_or (result_record (decoded s)) 5 0 ≡ get_or s 10 0
  unfolding decoded
  copied_origin = origin_byte (decoded s)
