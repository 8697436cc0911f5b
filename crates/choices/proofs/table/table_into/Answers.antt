-- `choices::table::table_into` meets its contract: in each turn one instruction commits, and its row is written. Assumes nothing.
use Prim.Native.Nat.{ℕ, ◌+◌, ◌≤◌, ◌<◌, min}
use mathlib.Core.Path.{◌≡◌, refl, ◌∙◌}
use mathlib.Core.Bool.{true}
use mathlib.Core.List.{List}
use native.Mathlib.Omega.{arith}
use Rattle.record.specs.declared.Block.{Block}
use Rattle.record.proofs.AcceptedRanges.{ranges}
use Rattle.unpacked.specs.inside.UnpackedBlock.{Shapes}
use Rattle.choices.specs.inside.InstructionRows.{Playing}
use Rattle.choices.specs.inside.NoteSteps.{fixed}
use Rattle.choices.specs.inside.PlayNotes.{Notes}
use Rattle.choices.proofs.NotesDecoded.{notes_committed}
use Rattle.choices.proofs.RowWritten.{table_none, table_all, row_table, row_noted}
use Rattle.record.specs.Refusals.{block_verdict}
use Rattle.unpacked.specs.declared.Shape.{Shape}
use Rattle.choices.specs.declared.PlayNotes.{PlayNotes}
use Rattle.choices.proofs.table.table_into.Goals as goal

small : {b : Block} {h : Shape} → block_verdict b ≡ (0, 0) → Shapes b h → h.n ≤ 60
small {b = b} a s = omega (arith, s.n, (ranges b a).n.1)

-- notes by another name
same-notes : (b : Block) (l : List ℕ) (c m : ℕ) (x x' : PlayNotes) → x' ≡ x → Notes b l c m x → Notes b l c m x'
same-notes b l c m x x' e N = rw e N

pub play_block_of-p-requires : goal.play_block_of-p-requires
play_block_of-p-requires c = (c.requires.0, c.requires.2)

pub loop-c-init : goal.loop-c-init
loop-c-init c =
    let lat = c.args.lat.now in
    (omega arith, refl, λ b P H. (c.first_notes-x.ensures.notes b lat c.play_block_of-p.result.rows P, omega arith, table_none b lat _))

pub overflow_add-c : goal.overflow_add-c
overflow_add-c c =
    let A = ranges c.args.b c.requires.0 in
    let s = c.play_block_of-p.ensures.0 in
    record { fits = omega (arith, c.loop-c-test.true, s.n, s.w, A.n.1, A.w.1) }

pub decode_until-requires : goal.decode_until-requires
decode_until-requires c =
    let s = c.play_block_of-p.ensures.0 in
    omega (arith, c.min-end.ensures, small c.requires.0 s)

pub until_started-requires : goal.until_started-requires
until_started-requires c =
    let lat = c.args.lat.now in
    let rows = c.play_block_of-p.result.rows in
    let s = c.play_block_of-p.ensures.0 in
    let t = c.loop-c in
    let P : Playing c.args.b lat rows = record { accepted = c.requires.0; cap = s.most; fit = c.requires.1; has = c.play_block_of-p.ensures.1 } in
    let reached : (b : Block) → Shapes b c.play_block_of-p.result.shape → c.min-end.result ≡ min b.n (t.c + b.w)
    = λ b H. omega (arith, c.min-end.ensures, H.n, H.w) in
    let some : (b : Block) → Playing b lat rows → Shapes b c.play_block_of-p.result.shape → t.c < c.min-end.result
    = λ b P H. omega (arith, reached b H, c.loop-c-test.true, H.n, (ranges b P.accepted).w.0) in
    let decoded : (b : Block) → Playing b lat rows → Shapes b c.play_block_of-p.result.shape → Notes b lat t.c c.min-end.result c.decode_until.new.x
    = λ b P H.
    let v = t.invariant.2 b P H in
    c.decode_until.ensures.notes b lat rows t.c P H (omega (arith, reached b H, v.0.few, v.1)) (omega (arith, reached b H)) v.0 in
    record {
      b = c.args.b;
      l = lat;
      playing = P;
      notes = decoded c.args.b P s;
      some = some c.args.b P s;
      all = omega (arith, reached c.args.b s);
    }

pub commit_one-requires : goal.commit_one-requires
commit_one-requires c =
    let s = c.play_block_of-p.ensures.0 in
    omega (arith, c.loop-c-test.true, small c.requires.0 s)

pub put_row-requires : goal.put_row-requires
put_row-requires c =
    let lat = c.args.lat.now in
    let rows = c.play_block_of-p.result.rows in
    let s = c.play_block_of-p.ensures.0 in
    let t = c.loop-c in
    let P : Playing c.args.b lat rows = record { accepted = c.requires.0; cap = s.most; fit = c.requires.1; has = c.play_block_of-p.ensures.1 } in
    let reached : (b : Block) → Shapes b c.play_block_of-p.result.shape → c.min-end.result ≡ min b.n (t.c + b.w)
    = λ b H. omega (arith, c.min-end.ensures, H.n, H.w) in
    let some : (b : Block) → Playing b lat rows → Shapes b c.play_block_of-p.result.shape → t.c < c.min-end.result
    = λ b P H. omega (arith, reached b H, c.loop-c-test.true, H.n, (ranges b P.accepted).w.0) in
    let decoded : (b : Block) → Playing b lat rows → Shapes b c.play_block_of-p.result.shape → Notes b lat t.c c.min-end.result c.decode_until.new.x
    = λ b P H.
    let v = t.invariant.2 b P H in
    c.decode_until.ensures.notes b lat rows t.c P H (omega (arith, reached b H, v.0.few, v.1)) (omega (arith, reached b H)) v.0 in
    let started : (b : Block) → Playing b lat rows → Shapes b c.play_block_of-p.result.shape
    → Notes b lat t.c c.min-end.result c.until_started.new.x × (fixed c.until_started.new.x t.c ≡ true)
    = λ b P H. c.until_started.ensures.notes b lat P (omega (arith, reached b H)) (decoded b P H) in
    let committed : (b : Block) → Playing b lat rows → Shapes b c.play_block_of-p.result.shape → Notes b lat (t.c + 1) c.min-end.result c.commit_one.new.x
    = λ b P H.
    let N = started b P H in
    same-notes b lat _ _ _ _ c.commit_one.ensures
    (notes_committed b lat rows P c.play_block_of-p.result.shape H t.c c.min-end.result c.until_started.new.x N.0 (some b P H) N.1) in
    let n : t.c < c.args.b.n = omega (arith, c.loop-c-test.true, s.n) in (
      omega (arith, n, t.invariant.1, c.requires.3),
      omega (arith, n, (ranges c.args.b c.requires.0).n.1),
      row_noted c.args.b lat rows P t.c _ _ (committed c.args.b P s),
    )

pub loop-c-preserved : goal.loop-c-preserved
loop-c-preserved c =
    let lat = c.args.lat.now in
    let rows = c.play_block_of-p.result.rows in
    let s = c.play_block_of-p.ensures.0 in
    let t = c.loop-c in
    let reached : (b : Block) → Shapes b c.play_block_of-p.result.shape → c.min-end.result ≡ min b.n (t.c + b.w)
    = λ b H. omega (arith, c.min-end.ensures, H.n, H.w) in
    let some : (b : Block) → Playing b lat rows → Shapes b c.play_block_of-p.result.shape → t.c < c.min-end.result
    = λ b P H. omega (arith, reached b H, c.loop-c-test.true, H.n, (ranges b P.accepted).w.0) in
    let decoded : (b : Block) → Playing b lat rows → Shapes b c.play_block_of-p.result.shape → Notes b lat t.c c.min-end.result c.decode_until.new.x
    = λ b P H.
    let v = t.invariant.2 b P H in
    c.decode_until.ensures.notes b lat rows t.c P H (omega (arith, reached b H, v.0.few, v.1)) (omega (arith, reached b H)) v.0 in
    let started : (b : Block) → Playing b lat rows → Shapes b c.play_block_of-p.result.shape
    → Notes b lat t.c c.min-end.result c.until_started.new.x × (fixed c.until_started.new.x t.c ≡ true)
    = λ b P H. c.until_started.ensures.notes b lat P (omega (arith, reached b H)) (decoded b P H) in
    let committed : (b : Block) → Playing b lat rows → Shapes b c.play_block_of-p.result.shape → Notes b lat (t.c + 1) c.min-end.result c.commit_one.new.x
    = λ b P H.
    let N = started b P H in
    same-notes b lat _ _ _ _ c.commit_one.ensures
    (notes_committed b lat rows P c.play_block_of-p.result.shape H t.c c.min-end.result c.until_started.new.x N.0 (some b P H) N.1) in (
      omega (arith, c.loop-c-test.true),
      c.put_row.auto.out ∙ t.invariant.1,
      λ b P H.
          let N = committed b P H in (
            N,
            omega (arith, reached b H),
            c.put_row.ensures ∙ row_table b lat rows P t.c _ _ N _ t.out (t.invariant.2 b P H).2,
          ),
    )

pub returns : goal.returns
returns c =
    let lat = c.args.lat.now in
    let rows = c.play_block_of-p.result.rows in
    let s = c.play_block_of-p.ensures.0 in
    let t = c.loop-c in
    let P : Playing c.args.b lat rows = record { accepted = c.requires.0; cap = s.most; fit = c.requires.1; has = c.play_block_of-p.ensures.1 } in
    let last : t.c ≡ c.args.b.n = omega (arith, c.loop-c-test.false, t.invariant.0, s.n) in
    (t.invariant.2 c.args.b P s).2 ∙ rw last (table_all c.args.b lat _)
