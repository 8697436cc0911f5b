-- `cycles::node_turn` meets its contract. Assumes nothing.
use mathlib.Core.Path.{◌≡◌, refl}
use native.Mathlib.Omega.{arith}
use Rattle.unpacked.proofs.StageNumbers.{number_few}
use Rattle.cycles.proofs.CycleByNode.{turned_started, turned_later, turned_now}
use Rattle.cycles.proofs.node_turn.Goals as goal

pub offset_bounds-ends-k : goal.offset_bounds-ends-k
offset_bounds-ends-k c =
    let kind = c.args.u.now.within.kind c.args.x.i c.requires.0.one in
    record { fits = omega (arith, kind) }

pub bounds-ends-k : goal.bounds-ends-k
bounds-ends-k c =
    let kind = c.args.u.now.within.kind c.args.x.i c.requires.0.one in
    omega (arith, kind)

pub hold-requires : goal.hold-requires
hold-requires c =
    let kind = c.args.u.now.within.kind c.args.x.i c.requires.0.one in
    (omega (arith, c.requires.0.now), omega (arith, kind))

pub returns-then-from_when-x : goal.returns-then-from_when-x
returns-then-from_when-x c =
    let now : c.time.result ≡ c.args.x.t = omega (arith, c.time.ensures, c.requires.0.now) in
    turned_now c.args.u.now c.args.lat.now c.args.x c.args.s.now c.args.ends.now _ _ _ c.stage_ready-r.ensures.0
    c.from-k.ensures c.from_when.ensures (rw c.node_of-v.ensures at c.if-s-v.true) c.if-from_when-x.true _ _
    (rw (c.node_of-v.ensures, now) refl) c.hold.ensures

pub returns-else-from_when-x : goal.returns-else-from_when-x
returns-else-from_when-x c =
    turned_later c.args.u.now c.args.lat.now c.args.x c.args.s.now c.args.ends.now _ _ _ c.stage_ready-r.ensures.0
    c.from-k.ensures c.from_when.ensures c.if-from_when-x.false

pub returns-else-s-v : goal.returns-else-s-v
returns-else-s-v c =
    let p = c.requires in
    turned_started c.args.u.now c.args.lat.now c.args.x c.args.s.now c.args.ends.now
    (omega (arith, p.0.one, number_few c.args.x.g, c.args.u.now.within.few, p.1.long)) (rw c.node_of-v.ensures at c.if-s-v.false)
