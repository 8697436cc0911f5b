-- `choices::choosing::until_started` meets its contract: the notes hold in each turn, and fewer instructions are without a start. Assumes nothing.
use Prim.Native.Nat.{ℕ, ◌≤◌, ◌<◌}
use mathlib.Core.Path.{◌≡◌, refl, ap, ◌∙◌}
use mathlib.Core.Bool.{false, not}
use mathlib.Core.List.{List}
use native.Mathlib.Omega.{arith}
use borrow.Author.Tests.{eq-eqb, ne_eqb}
use Rattle.std.proofs.lemmas.List.{get_or_default}
use Rattle.record.proofs.AcceptedRanges.{ranges}
use Rattle.choices.specs.inside.InstructionRows.{no_row}
use Rattle.choices.specs.inside.PlayNotes.{Underway}
use Rattle.choices.specs.inside.NoteSteps.{never, fixed}
use Rattle.choices.proofs.OneStart.{next_notes, next_less}
use Rattle.choices.specs.declared.Row.{Row}
use Rattle.choices.specs.declared.PlayNotes.{PlayNotes}
use borrow.Author.Rules.{rules}
use Rattle.choices.proofs.choosing.until_started.Goals as goal

pub loop-x-init : goal.loop-x-init
loop-x-init c b l P all N = N

-- what is known at the start
few : {c m : ℕ} {rows : List Row} {x : PlayNotes} → Underway c m rows x → m ≤ 60
few U = omega (arith, U.notes.few, (ranges U.b U.playing.accepted).n.1)

pub overflow_add-c : goal.overflow_add-c
overflow_add-c c = record { fits = omega (arith, c.requires.some, few c.requires) }

pub offset_bounds-x-c : goal.offset_bounds-x-c
offset_bounds-x-c c = record { fits = omega (arith, c.requires.some, few c.requires) }

pub bounds-x-c : goal.bounds-x-c
bounds-x-c c = omega (arith, c.requires.some, few c.requires)

pub choose-v-requires : goal.choose-v-requires
choose-v-requires c = record { some = c.requires.some; few = few c.requires }

pub offset_bounds-p-v : goal.offset_bounds-p-v
offset_bounds-p-v c = record { fits = omega (arith, c.choose-v.ensures.among.below, few c.requires) }

pub bounds-p-v : goal.bounds-p-v
bounds-p-v c = omega (arith, c.choose-v.ensures.among.below, few c.requires)

pub listed : goal.listed
listed c = omega (arith, c.choose-v.ensures.among.below, few c.requires)

pub start_one-requires : goal.start_one-requires
start_one-requires c =
    let near : c.choose-v.result.at < 60 = omega (arith, c.choose-v.ensures.among.below, few c.requires) in
    let q = get_or_default c.args.p.now.rows c.choose-v.result.at c.index-p-v.result no_row (omega (arith, near)) in
    (near, c.choose-v.ensures.among.most, rw (c.from-kind.ensures, q) (c.args.p.now.kinds.each c.choose-v.result.at), search rules)

-- one start more
pub loop-x-smaller : goal.loop-x-smaller
loop-x-smaller c =
    let U = c.requires in
    let v = c.choose-v in
    let x = c.loop-x.x in
    let off : fixed x c.args.c ≡ false = ap not (eq-eqb _ never c.loop-x-test.true) in
    let q = get_or_default c.args.p.now.rows c.choose-v.result.at c.index-p-v.result no_row (omega (arith, c.choose-v.ensures.among.below, few c.requires)) in
    rw c.start_one.ensures
    (next_less U.b U.l c.args.p.now.rows U.playing c.args.c c.args.m x (c.loop-x.invariant U.b U.l U.playing U.all U.notes)
    U.some U.all off v.result v.ensures _ _ (c.from-kind.ensures ∙ rw q refl) (c.from.ensures ∙ rw q refl))

pub loop-x-preserved : goal.loop-x-preserved
loop-x-preserved c b l P all N =
    let v = c.choose-v in
    let x = c.loop-x.x in
    let off : fixed x c.args.c ≡ false = ap not (eq-eqb _ never c.loop-x-test.true) in
    let q = get_or_default c.args.p.now.rows c.choose-v.result.at c.index-p-v.result no_row (omega (arith, c.choose-v.ensures.among.below, few c.requires)) in
    rw c.start_one.ensures
    (next_notes b l c.args.p.now.rows P c.args.c c.args.m x (c.loop-x.invariant b l P all N)
    c.requires.some all off v.result v.ensures _ _ (c.from-kind.ensures ∙ rw q refl) (c.from.ensures ∙ rw q refl))

pub returns : goal.returns
returns c = record { notes = λ b l P all N. (c.loop-x.invariant b l P all N, ap not (ne_eqb _ never c.loop-x-test.false)) }
