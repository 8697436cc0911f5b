-- `choices::choosing::scan` meets its contract: the first of those that can start first, of the instructions looked at; and none
-- further on can start before it is decoded. Assumes nothing.
use Prim.Native.Nat.{◌+◌, ◌≤◌}
use mathlib.Core.Path.{◌≡◌}
use native.Mathlib.Omega.{arith}
use lib.ListN.{get_or}
use Rattle.choices.proofs.Scanning.{best_one, best_more, best_all}
use Rattle.choices.proofs.choosing.scan.Goals as goal

pub loop-j-init : goal.loop-j-init
loop-j-init c =
    (omega arith, omega (arith, c.requires.0.some), best_one c.args.p.now.rows c.args.x.now c.args.c c.args.r c.requires.1 c.requires.2)

pub returns-then-best-decoded : goal.returns-then-best-decoded
returns-then-best-decoded c =
    let t = c.loop-j in
    let B = t.invariant.2 in
    let over : t.best.start ≤ get_or c.args.x.now.decoded (32 + t.j) 0 = omega (arith, c.from-decoded.ensures, c.if-best-decoded.true) in
    let A = B.among in
    record {
      among = record { from = A.from; below = omega (arith, A.below, t.invariant.1); most = A.most; start = A.start };
      first = λ R. best_all c.args.p.now.rows c.args.x.now c.args.c t.j c.args.m t.best B R over;
    }

pub loop-j-preserved : goal.loop-j-preserved
loop-j-preserved c =
    let below = c.loop-j-test.true in
    let t = c.loop-j in
    let B =
    best_more c.args.p.now.rows c.args.x.now c.args.c t.j c.key_of.result t.best _ t.invariant.2 c.key_of.ensures
    c.better-best.ensures.0 c.better-best.ensures.1
    in
    (omega (arith, t.invariant.0), omega (arith, below), B)

pub returns : goal.returns
returns c =
    let t = c.loop-j in
    let B = t.invariant.2 in
    let all : t.j ≡ c.args.m = omega (arith, c.loop-j-test.false, t.invariant.1) in
    let A = B.among in
    record {
      among = record { from = A.from; below = omega (arith, A.below, all); most = A.most; start = A.start };
      first = λ R i l h. B.first i l (omega (arith, h, all));
    }
