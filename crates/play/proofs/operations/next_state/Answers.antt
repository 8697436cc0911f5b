-- `play::operations::next_state` meets its contract: a state holds 300 starts, and in a fit one none is after its cycle. Assumes nothing.
use mathlib.Core.Path.{◌≡◌, sym, subst}
use Prim.Native.Nat.{ℕ}
use native.Mathlib.Omega.{arith}
use lib.ListN.{length}
use Rattle.model.specs.Nodes.{chosen}
use Rattle.unpacked.specs.inside.UnpackedBlock.{Unpacked}
use Rattle.cycles.specs.inside.PlayFacts.{Timed}
use Rattle.play.specs.Promises.{state_of}
use Rattle.play.proofs.UnfitStates.{fit_now, fit_timed}
use Rattle.play.proofs.LatencyList.{listed}
use Rattle.play.proofs.LengthAndState.{cycled}
use Rattle.play.proofs.operations.next_state.Goals as goal

pub cycle_into-requires : goal.cycle_into-requires
cycle_into-requires c =
    let n = listed c.args.b c.args.lat.now c.requires.1 in
    let now = fit_now c.args.b (state_of c.args.p) c.requires.2 in
    (omega (arith, c.from.ensures, now), record { list = omega (arith, n, c.unpacked_of-u.ensures.0.n); long = omega arith })

pub overflow_add-result : goal.overflow_add-result
overflow_add-result c =
    record { fits = omega (arith, fit_now c.args.b (state_of c.args.p) c.requires.2) }

pub returns : goal.returns
returns c =
    let u = c.unpacked_of-u in
    let unpacked : Unpacked c.args.b u.result.shape u.result.instructions
    = record { accepted = c.requires.0; shape = u.ensures.0; instructions = u.ensures.1 } in
    let long : length c.args.p.starts ≡ 300 = omega arith in
    let timed : Timed c.from.result c.args.p.starts
    = subst (λ (t : ℕ). Timed t c.args.p.starts) (sym c.from.ensures) (fit_timed c.args.b (state_of c.args.p) long c.requires.2) in
    cycled c.args.b (chosen c.args.b c.args.lat.now) (state_of c.args.p) c.from.result _ c.from.ensures (c.cycle_into.ensures.played c.args.b unpacked timed)
