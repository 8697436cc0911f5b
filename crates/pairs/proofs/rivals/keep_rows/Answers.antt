-- `pairs::rivals::keep_rows` meets its contract: the rows passed are those kept, the others stand as they stood. Assumes nothing.
use Prim.Native.Nat.{ℕ, ◌+◌, ◌<◌, ◌≤◌}
use mathlib.Core.Path.{◌∙◌, ◌≡◌, ap, refl}
use mathlib.Core.List.{List}
use native.Mathlib.Omega.{arith}
use lib.ListN.{length, set}
use borrow.Author.Count.{below_more}
use Rattle.std.specs.declared.ops.Range.{Range}
use Rattle.pairs.specs.inside.PairRows.{row}
use Rattle.pairs.specs.inside.RowSteps.{stays}
use Rattle.pairs.proofs.RowStore.{row_other, row_read, row_same}
use Rattle.pairs.proofs.rivals.keep_rows.Goals as goal

pub loop-j-init : goal.loop-j-init
loop-j-init c =
    let e = c.into_iter-j-iterator.ensures.into_iter_gives in
    let start : c.into_iter-j-iterator.result.start ≡ c.args.these.start = ap (λ (r : Range ℕ). r.start) e in
    let end : c.into_iter-j-iterator.result.end ≡ c.args.these.end = ap (λ (r : Range ℕ). r.end) e in
    (tt, tt, omega arith, omega (arith, c.requires.0), end, λ i l f. absurd (omega arith), λ i l. refl, λ i l. refl)

pub loop-j-preserved : goal.loop-j-preserved
loop-j-preserved c =
    let t = c.loop-j in
    let v = t.invariant in
    let j = c.in-Some.j in
    let step = c.in-Some.ensures.steps in
    let this : j ≡ t.j-iterator.start = omega (arith, step) in
    let more : c.next.new.self.start ≡ j + 1 = omega (arith, step) in
    let r = c.keep_row.new.row in
    let few : j < length t.rows = omega (arith, step, v.4, c.requires.1) in
    let other : (i : ℕ) → (i ≡ j → ⊥) → row (set t.rows j r) i ≡ row t.rows i = λ i off. row_other t.rows j r i off in
    let left : ℕ → List ℕ = λ i. stays c.args.u.now c.args.times.now.early c.args.times.now.late i (row c.args.rows.now i) in
    let here : row (set t.rows j r) j ≡ left j
    = row_same t.rows j r few ∙ c.keep_row.ensures
    ∙ ap (stays c.args.u.now c.args.times.now.early c.args.times.now.late j) (row_read t.rows j _ few ∙ v.7 j (omega arith)) in (
      tt,
      tt,
      omega (arith, v.2),
      omega (arith, step, v.4),
      step.0 ∙ v.4,
      λ i l.
          below_more (λ k. c.args.these.start ≤ k → row (set t.rows j r) k ≡ left k) j
          (λ k h g. other k (λ e. omega arith) ∙ v.5 k (omega arith) g) (λ g. here) i (omega (arith, more)),
      λ i l. other i (λ e. omega (arith, v.2)) ∙ v.6 i l,
      λ i l. other i (λ e. omega arith) ∙ v.7 i (omega arith),
    )

pub returns : goal.returns
returns c =
    let v = c.loop-j.invariant in
    let step = c.in-None.ensures.steps in
    record { after = λ j l f. v.5 j (omega (arith, step, v.3, v.4)) f; before = v.6 }
