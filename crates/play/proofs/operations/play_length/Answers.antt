-- `play::operations::play_length` meets its contract: the length is the last number of the table. Assumes nothing.
use Rattle.std.proofs.Common.{ℕ, sym, arith}
use Rattle.std.proofs.lemmas.Result.{err_from_is_err_and}
use lib.ListN.{length-replicate}
use Rattle.unpacked.proofs.BlockInstructions.{few}
use Rattle.play.proofs.LatencyList.{listed, accepted_fitting}
use Rattle.play.proofs.Outcomes.{length_fine, length_refused, length_done}
use Rattle.play.proofs.LengthAndState.{some, length_last}
use Rattle.play.proofs.operations.play_length.Goals as goal

pub table_into-requires : goal.table_into-requires
table_into-requires c =
    let z = length_fine c.args.b c.args.lat.now (sym c.in_ok-both_answer.ensures.0) in
    let r = length-replicate {A = ℕ} 900 0 in
    (z.0, accepted_fitting c.args.b c.args.lat.now z.1, listed c.args.b c.args.lat.now z.1, omega (arith, few c.args.b z.0, r))

pub overflow_sub-last : goal.overflow_sub-last
overflow_sub-last c =
    omega (arith, some c.args.b (length_fine c.args.b c.args.lat.now (sym c.in_ok-both_answer.ensures.0)).0)

pub bounds-out-last : goal.bounds-out-last
bounds-out-last c =
    let z = (length_fine c.args.b c.args.lat.now (sym c.in_ok-both_answer.ensures.0)).0 in
    omega (arith, some c.args.b z, few c.args.b z)

pub returns-in_err-both_answer : goal.returns-in_err-both_answer
returns-in_err-both_answer c =
    let p = err_from_is_err_and c.from_residual.result c.from_residual.ensures.1 in
    let t = c.in_err-both_answer.ensures in
    rw (p.1, p.2) (length_refused _ _ t.1 _ t.0)

pub returns : goal.returns
returns c =
    let t = c.in_ok-both_answer.ensures in
    let z = length_fine c.args.b c.args.lat.now (sym t.0) in
    rw c.from.ensures (length_done _ _ t.1 _ (sym t.0) (length_last c.args.b z.0 c.args.lat.now _ _ c.table_into.ensures))
