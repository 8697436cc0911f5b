-- `rounds::times::round_into` meets its contract: after i instructions the times are filled to their nodes. Assumes nothing.
use Prim.Native.Nat.{◌*◌, ◌<◌}
use mathlib.Core.Path.{◌∙◌, ◌≡◌, ap, refl}
use native.Mathlib.Omega.{arith}
use lib.ListN.{length}
use Rattle.lists.specs.Lists.{numbers_where}
use Rattle.lists.proofs.BufferFill.{filled_at, filled_none}
use Rattle.model.specs.Nodes.{nodes}
use Rattle.model.specs.Rounds.{latest_start, rival, round}
use Rattle.unpacked.specs.inside.UnpackedBlock.{high_of}
use Rattle.pairs.proofs.LaterLatencies.{later_same}
use Rattle.pairs.proofs.RowStore.{row_read}
use Rattle.rounds.proofs.TimesFilled.{committed_length, fetched_length}
use Rattle.rounds.proofs.TimesTurn.{round_turn}
use borrow.Author.Rules.{rules}
use Rattle.rounds.proofs.times.round_into.Goals as goal

pub later_of-most-requires : goal.later_of-most-requires
later_of-most-requires c = c.args.v.now.within.few

pub loop-i-init : goal.loop-i-init
loop-i-init c = (refl, search rules, search rules, λ b con known U R E. filled_none (latest_start b (rival con known)) _)

pub fetch_into-requires : goal.fetch_into-requires
fetch_into-requires c = omega (arith, c.args.v.now.within.few)

pub ready_ex-r-requires : goal.ready_ex-r-requires
ready_ex-r-requires c =
    let i = c.loop-i.i in
    let p = c.args.v.now.within in
    let l : i < c.args.v.now.shape.n = search rules in
    (omega (arith, l, p.few), omega (arith, p.first i l, l, p.few), omega (arith, p.second i l, l, p.few))

pub latest_of-x-requires : goal.latest_of-x-requires
latest_of-x-requires c =
    let p = c.those.ensures.places in
    (p.0, p.1, c.ready_ex-r.ensures.1)

pub commit_into-requires : goal.commit_into-requires
commit_into-requires c =
    (omega (arith, c.args.v.now.within.few, c.loop-i-test.true), c.latest_of-x.ensures.1)

pub loop-i-preserved : goal.loop-i-preserved
loop-i-preserved c =
    let t = c.loop-i in
    let i = t.i in (
      refl,
      omega arith,
      ap length c.commit_into.ensures ∙ committed_length _ _ _ _ _
          ∙ (ap length c.fetch_into.ensures ∙ (fetched_length _ _ _ _ _ _ ∙ t.invariant.2)),
      λ b con known U R E.
          let below : i < b.n = omega (arith, U.shape.n, t.invariant.0) in
          let these : c.those.result.now ≡ numbers_where 0 i (rival con known i)
          = c.those.ensures.same ∙ row_read c.args.rows.now i _ (search rules) ∙ R.listed i below in
          let later = later_same c.args.v.now.shape.n b.n U.shape.n (rival con known) c.args.rows.now (high_of c.args.v.now.instructions) i _
          (λ r l. c.later_of-most.ensures.each (rival con known) r i l) R below in
          round_turn b c.args.v.now.shape c.args.v.now.instructions U c.args.s.now (search rules) i (omega arith) con known E _ _ these later t.s _ _ _ _ _
          (t.invariant.3 b con known U R E) c.fetch_into.ensures c.ready_ex-r.ensures.0 c.latest_of-x.ensures.0
          refl c.commit_into.ensures,
    )

pub returns : goal.returns
unfolding round
returns c =
    let t = c.loop-i in
    record {
      long = t.invariant.2;
      times = λ b con known U R E.
          let e : 5 * t.i ≡ nodes b = omega (arith, U.shape.n, t.invariant.0, t.invariant.1) in
          record { at = λ v l. rw e at (filled_at (latest_start b (rival con known)) _ 0 (5 * t.i) t.s (t.invariant.3 b con known U R E)) v l };
    }
