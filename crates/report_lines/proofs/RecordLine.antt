-- The line of a record, by what its reading answers. Assumes nothing.
use Rattle.std.proofs.Common.{◌≡◌, List, ℕ, refl, sym}
use Rattle.std.specs.Prelude.{Ok as Accepted, Err as Refused}
use Rattle.record.specs.Promises.{Reads}
use Rattle.record.specs.Refusals.{number_of, place_of, read_verdict}
use Rattle.record.specs.declared.Block.{Block}
use Rattle.record.specs.declared.Reason.{Reason}
use Rattle.record.proofs.Answers.{refused_not}
use Rattle.record.proofs.RoundTrips.{reading_fine, reading_decoded}
use Rattle.report_lines.specs.Report.{block_line, refusal_line, line}

module _ (s : List ℕ) (index : ℕ) where
  pub line_accepted : (b : Block) → Reads s (Accepted b) → line index s ≡ block_line b
  unfolding line
  line_accepted b x = rw (reading_fine s b x, reading_decoded s b x) refl

  pub line_refused : (why : Reason) → Reads s (Refused why) → line index s ≡ refusal_line index (number_of why)
  unfolding line
  line_refused why x =
      let z : read_verdict s ≡ (number_of why, place_of why) = sym x.answer in
      rw (z, refused_not why) refl
