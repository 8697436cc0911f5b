-- `choices::choosing::scan` meets its contract: the first of those that can start first, of the instructions looked at.
use Prim.Native.Nat.{◌≤◌, ◌<◌}
use Rattle.choices.proofs.Scanning.{Best}
use Rattle.choices.proofs.choosing.scan.Given as goal

abbrev pub invariant-loop-j : goal.invariant-loop-j
invariant-loop-j l = (l.c < l.j) × (l.j ≤ l.m) × Best l.p.rows l.x l.c l.j l.best
