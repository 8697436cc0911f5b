-- `analysis::operations::table_into` meets its contract. Assumes nothing.
use mathlib.Core.Path.{◌∙◌}
use native.Mathlib.Omega.{arith}
use Rattle.unpacked.specs.inside.UnpackedBlock.{Unpacked}
use Rattle.analysis.proofs.WindowTable.{table_is}
use Rattle.analysis.proofs.operations.table_into.Goals as goal

pub times_into-requires : goal.times_into-requires
times_into-requires c =
    let f = c.unpacked_of-v.ensures in
    record { b = c.args.b; unpacked = record { accepted = c.requires.0; shape = f.0; instructions = f.1 } }

pub put_table-requires : goal.put_table-requires
put_table-requires c = omega (arith, c.unpacked_of-v.ensures.0.n, c.requires.1)

pub returns : goal.returns
returns c =
    let f = c.unpacked_of-v in
    let U : Unpacked c.args.b f.result.shape f.result.instructions
    = record { accepted = c.requires.0; shape = f.ensures.0; instructions = f.ensures.1 } in
    let r = c.times_into.ensures in
    c.put_table.ensures ∙ table_is c.args.b f.result _ _ U (r.soonest.times c.args.b U) (r.latest.times c.args.b U) _
