-- `choices::choosing::choose` meets its contract: the oldest where it is ready by its unit's time, else what the scan finds. Assumes nothing.
use Prim.Native.Nat.{◌≤◌, ◌<◌}
use mathlib.Core.Path.{refl}
use native.Mathlib.Omega.{arith}
use Rattle.choices.specs.inside.NoteSteps.{ready_of, end_of, key_of}
use Rattle.choices.proofs.choosing.choose.Goals as goal

pub returns-then-ready : goal.returns-then-ready
unfolding key_of
returns-then-ready c =
    let end = c.end_of-e.ensures in
    let ready = c.ready_of-r.ensures in
    let by : ready_of c.args.p.now.rows c.args.x.now c.args.c ≤ end_of c.args.p.now.rows c.args.x.now c.args.c = omega (arith, c.if-ready.true, ready.0, end.0) in
    record {
      among =
          record { from = omega arith; below = c.requires.some; most = end.1; start = omega (arith, end.0, by) };
      oldest = λ h. refl;
      first = λ h. absurd (omega (arith, h, by));
    }

pub scan-requires : goal.scan-requires
unfolding key_of
scan-requires c =
    let ready = c.ready_of-r.ensures in
    let p = c.requires in
    (p, ready.1, omega (arith, c.if-ready.false, ready.0, c.end_of-e.ensures.0))

pub returns : goal.returns
returns c =
    let scan = c.scan.ensures in
    let end = c.end_of-e.ensures in
    let ready = c.ready_of-r.ensures in
    let after : end_of c.args.p.now.rows c.args.x.now c.args.c < ready_of c.args.p.now.rows c.args.x.now c.args.c = omega (arith, c.if-ready.false, ready.0, end.0) in
    record { among = scan.among; oldest = λ h. absurd (omega (arith, h, after)); first = λ h. scan.first }
