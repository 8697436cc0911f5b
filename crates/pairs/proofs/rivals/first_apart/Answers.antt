-- `pairs::rivals::first_apart` meets its contract: no row passed has one that is apart, and of this row none of those passed is.
-- Assumes nothing.
use Prim.Native.Nat.{ℕ}
use mathlib.Core.Path.{◌∙◌, ◌≡◌, ap, refl, sym}
use mathlib.Core.Bool.{Bool, false, true}
use native.Mathlib.Omega.{arith}
use lib.ListN.{get_or, length, take}
use borrow.Author.Count.{below_more, below_none}
use Rattle.lists.specs.Sums.{any}
use Rattle.lists.proofs.Fronts.{any_more, take_end}
use Rattle.lists.proofs.Elements.{get_or_in}
use Rattle.lists.proofs.Least.{least_here, least_none}
use Rattle.lists.proofs.Members.{any_in}
use Rattle.pairs.specs.inside.PairRows.{apart_ex, row}
use Rattle.pairs.specs.inside.RowSteps.{first_apart}
use Rattle.pairs.proofs.RowStore.{row_read}
use borrow.Author.Rules.{rules}
use Rattle.pairs.proofs.rivals.first_apart.Goals as goal

pub scan-init : goal.scan-init
scan-init c = (refl, search rules, below_none _)

pub loop-i-init : goal.loop-i-init
unfolding any
loop-i-init c = (c.scan.invariant.0, refl)

pub apart_at-requires : goal.apart_at-requires
apart_at-requires c = (search rules, omega (arith, c.those-i-items.ensures.places.1 c.loop-i.i-index, c.from.ensures))

pub loop-i-preserved : goal.loop-i-preserved
loop-i-preserved c =
    let t = c.loop-i in
    let j = c.scan.j in
    let p : ℕ → Bool = apart_ex c.args.u.now c.args.times.now.early c.args.times.now.late j in
    let xs = c.those-i-items.result.now in
    let same : xs ≡ row c.args.rows.now j
    = c.those-i-items.ensures.same ∙ row_read c.args.rows.now j _ (search rules) in
    let looked : p (get_or xs t.i-index 0) ≡ false = ap p (sym c.from.ensures) ∙ sym c.apart_at.ensures ∙ c.if-apart_at.false in
    let before : any p (take t.i-index xs) ≡ false = rw same t.invariant.1 in
    (t.invariant.0, rw (← same) (any_more xs t.i-index (search rules) p ∙ rw (before, looked) refl))

pub scan-preserved : goal.scan-preserved
scan-preserved c =
    let t = c.loop-i in
    let j = c.scan.j in
    let same : c.those-i-items.result.now ≡ row c.args.rows.now j
    = c.those-i-items.ensures.same ∙ row_read c.args.rows.now j _ (search rules) in
    let e : length (row c.args.rows.now j) ≡ t.i-index = rw (← same) (search rules) in
    (t.invariant.0, omega arith, below_more _ _ c.scan.invariant.2 (rw (take_end (row c.args.rows.now j) t.i-index e) at t.invariant.1))

pub returns-after-scan : goal.returns-after-scan
unfolding first_apart
returns-after-scan c =
    let t = c.scan in
    t.invariant.0 ∙ sym (least_none 0 c.args.n _ (omega arith) (λ j _ h. t.invariant.2 j (omega arith)))

pub returns-then-apart_at : goal.returns-then-apart_at
unfolding first_apart
returns-then-apart_at c =
    let t = c.loop-i in
    let j = c.scan.j in
    let p : ℕ → Bool = apart_ex c.args.u.now c.args.times.now.early c.args.times.now.late j in
    let xs = c.those-i-items.result.now in
    let same : xs ≡ row c.args.rows.now j
    = c.those-i-items.ensures.same ∙ row_read c.args.rows.now j _ (search rules) in
    let looked : p (get_or xs t.i-index 0) ≡ true = ap p (sym c.from.ensures) ∙ sym c.apart_at.ensures ∙ c.if-apart_at.true in
    let found : any p xs ≡ true = any_in p xs (get_or xs t.i-index 0) (get_or_in xs t.i-index (search rules)) looked in
    sym (least_here 0 c.args.n _ j (omega arith) (omega arith) (λ i _ h. c.scan.invariant.2 i h) (rw same at found))
