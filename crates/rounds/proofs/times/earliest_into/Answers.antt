-- `rounds::times::earliest_into` meets its contract: after i instructions the times are filled to their nodes. Assumes nothing.
use Prim.Native.Nat.{◌*◌, ◌<◌}
use mathlib.Core.Path.{◌∙◌, ◌≡◌, ap, refl}
use native.Mathlib.Omega.{arith}
use lib.ListN.{length}
use Rattle.lists.proofs.BufferFill.{filled_at, filled_none}
use Rattle.model.specs.Cycles.{ready}
use Rattle.model.specs.Nodes.{lowest, nodes}
use Rattle.model.specs.Rounds.{earliest}
use Rattle.rounds.proofs.TimesFilled.{committed_length, fetched_length}
use Rattle.rounds.proofs.TimesTurn.{earliest_turn}
use borrow.Author.Rules.{rules}
use Rattle.rounds.proofs.times.earliest_into.Goals as goal

pub loop-i-init : goal.loop-i-init
loop-i-init c = (refl, search rules, search rules, λ b U. filled_none (ready b (lowest b)) _)

pub fetch_into-requires : goal.fetch_into-requires
fetch_into-requires c = omega (arith, c.args.v.now.within.few)

pub ready_ex-r-requires : goal.ready_ex-r-requires
ready_ex-r-requires c =
    let i = c.loop-i.i in
    let p = c.args.v.now.within in
    let l : i < c.args.v.now.shape.n = search rules in
    (omega (arith, l, p.few), omega (arith, p.first i l, l, p.few), omega (arith, p.second i l, l, p.few))

pub commit_into-requires : goal.commit_into-requires
commit_into-requires c =
    (omega (arith, c.args.v.now.within.few), omega (arith, c.ready_ex-r.ensures.1))

pub loop-i-preserved : goal.loop-i-preserved
loop-i-preserved c =
    let t = c.loop-i in (
      refl,
      omega arith,
      ap length c.commit_into.ensures ∙ committed_length _ _ _ _ _
          ∙ (ap length c.fetch_into.ensures ∙ (fetched_length _ _ _ _ _ _ ∙ t.invariant.2)),
      λ b U.
          earliest_turn b c.args.v.now.shape c.args.v.now.instructions U c.args.s.now (search rules) t.i (search rules) t.s _ _ _ _
          (t.invariant.3 b U) c.fetch_into.ensures c.ready_ex-r.ensures.0 refl c.commit_into.ensures,
    )

pub returns : goal.returns
unfolding earliest
returns c =
    let t = c.loop-i in
    record {
      long = t.invariant.2;
      times = λ b U.
          let e : 5 * t.i ≡ nodes b = omega (arith, U.shape.n, t.invariant.0, t.invariant.1) in
          record { at = λ v l. rw e at (filled_at (ready b (lowest b)) _ 0 (5 * t.i) t.s (t.invariant.3 b U)) v l };
    }
