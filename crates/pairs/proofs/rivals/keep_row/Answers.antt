-- `pairs::rivals::keep_row` meets its contract: those kept of the ones passed stand in front. Assumes nothing.
use Prim.Native.Nat.{ℕ, ◌<◌}
use mathlib.Core.Path.{◌∙◌, ◌≡◌, ap, refl}
use mathlib.Core.Bool.{Bool, not}
use native.Mathlib.Omega.{arith}
use lib.ListN.{get_or, length, length-set, take}
use Rattle.lists.specs.Lists.{pick}
use Rattle.lists.specs.inside.Kept.{kept}
use Rattle.lists.proofs.Elements.{all_set}
use Rattle.pairs.specs.inside.PairRows.{apart_ex}
use Rattle.pairs.specs.inside.RowSteps.{stays}
use Rattle.pairs.proofs.RowScan.{keep_more, rest_more}
use Rattle.pairs.proofs.RowStore.{counted, counted_most}
use borrow.Author.Rules.{rules}
use Rattle.pairs.proofs.rivals.keep_row.Goals as goal

pub loop-k-init : goal.loop-k-init
unfolding kept
loop-k-init c = (search rules, refl, search rules, refl, refl, c.args.row.now.inside)

pub apart_at-t-requires : goal.apart_at-t-requires
apart_at-t-requires c =
    let t = c.loop-k in
    (search rules, omega (arith, t.invariant.5 t.k, c.from.ensures))

pub loop-k-preserved : goal.loop-k-preserved
loop-k-preserved c =
    let t = c.loop-k in
    let v = t.invariant in
    let q = apart_ex c.args.u.now c.args.times.now.early c.args.times.now.late c.args.j in
    let p : ℕ → Bool = λ i. not (q i) in
    let h : t.k < length c.args.row.now.numbers = search rules in
    let i = get_or t.row.numbers t.k 0 in
    let m : c.from-len.result ≡ pick (p i) 1 0
    = c.from-len.ensures ∙ counted _ ∙ ap (λ (u : Bool). pick (not u) 1 0) (c.apart_at-t.ensures ∙ ap q c.from.ensures) in (
      omega arith,
      length-set t.row.numbers t.len i ∙ v.1,
      omega (arith, counted_most, v.2),
      keep_more p c.args.row.now.numbers t.row.numbers t.k t.len h v.1 v.2 v.4 i c.from-len.result refl m v.3,
      rest_more p c.args.row.now.numbers t.row.numbers t.k t.len h v.1 v.2 v.4 i,
      all_set (λ y. y < 60) t.row.numbers t.len i v.5 (v.5 t.k),
    )

pub returns : goal.returns
returns c =
    let t = c.loop-k in
    let e : t.k ≡ c.args.row.now.len = search rules in
    t.invariant.3 ∙ ap (λ (k : ℕ). stays c.args.u.now c.args.times.now.early c.args.times.now.late c.args.j (take k c.args.row.now.numbers)) e
