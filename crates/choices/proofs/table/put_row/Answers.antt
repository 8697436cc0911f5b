-- `choices::table::put_row` meets its contract: five times three stores, of what is noted. Assumes nothing.
use Prim.Native.Nat.{ℕ, ◌+◌, ◌-◌, ◌%◌, max}
use mathlib.Core.Path.{◌≡◌, refl, ◌∙◌}
use mathlib.Core.List.{List, [], ◌∷◌}
use native.Mathlib.Omega.{arith}
use lib.ListN.{get_or}
use Rattle.std.proofs.lemmas.List.{get_or_default}
use Rattle.lists.specs.Lists.{put}
use Rattle.model.specs.Nodes.{IF, ID, EX, WB, CM, node}
use Rattle.model.specs.Cycles.{play_place}
use Rattle.choices.specs.inside.NoteSteps.{sources_of, row_into}
use Rattle.choices.specs.inside.InstructionRows.{no_row, row}
use Rattle.choices.specs.declared.Row.{Row}
use Rattle.choices.specs.declared.PlayNotes.{PlayNotes}
use Rattle.choices.proofs.table.put_row.Goals as goal

-- five puts of three numbers
module _ (rows : List Row) (x : PlayNotes) (i : ℕ) (o : List ℕ) where
  row-puts : {u s y r v : ℕ} {o1 o2 o3 o4 o5 : List ℕ} → u ≡ get_or x.decoded (32 + i) 0 → s ≡ sources_of rows x i → y ≡ max u s → r ≡ y % 65536 → v ≡ (row rows i).latency
      → o1 ≡ put o (play_place (node IF i) 0) (get_or x.fetch (32 + i) 0 ∷ get_or x.fetch (32 + i) 0 ∷ get_or x.fetched (32 + i) 0 ∷ [])
      → o2 ≡ put o1 (play_place (node ID i) 0) ((get_or x.decoded (32 + i) 0 - 1) ∷ (get_or x.decoded (32 + i) 0 - 1) ∷ get_or x.decoded (32 + i) 0 ∷ [])
      → o3 ≡ put o2 (play_place (node EX i) 0) (r ∷ (get_or x.written (i + 1) 0 - 1 - v) ∷ (get_or x.written (i + 1) 0 - 1) ∷ [])
      → o4 ≡ put o3 (play_place (node WB i) 0) ((get_or x.written (i + 1) 0 - 1) ∷ (get_or x.written (i + 1) 0 - 1) ∷ get_or x.written (i + 1) 0 ∷ [])
      → o5 ≡ put o4 (play_place (node CM i) 0) ((get_or x.committed (32 + i) 0 - 1) ∷ (get_or x.committed (32 + i) 0 - 1) ∷ get_or x.committed (32 + i) 0 ∷ [])
      → o5 ≡ row_into rows x i o
  unfolding row_into
  row-puts u s y r v e1 e2 e3 e4 e5 = rw (e5, e4, e3, e2, e1, v, r, y, s, u) refl

pub overflow_sub-c : goal.overflow_sub-c
overflow_sub-c c = c.requires.2.committed

pub overflow_sub-c-2 : goal.overflow_sub-c-2
overflow_sub-c-2 c = c.requires.2.committed

pub put_three-requires-5 : goal.put_three-requires-5
put_three-requires-5 c =
    let p = c.requires in
    let e1 = c.put_three.auto.out in
    let e2 = c.put_three-2.auto.out in
    let e3 = c.put_three-3.auto.out in
    let e4 = c.put_three-4.auto.out in
    (p.1, omega arith, omega (arith, p.0, e1, e2, e3, e4))

pub returns : goal.returns
returns c =
    let q = get_or_default c.args.p.now.rows c.args.i c.index-p-i.result no_row (omega (arith, c.requires.1)) in
    row-puts c.args.p.now.rows c.args.x.now c.args.i c.args.out.now c.from.ensures
    c.sources_of.ensures.0 c.max.ensures c.time-ready.ensures (c.from-2.ensures ∙ rw q refl)
    c.put_three.ensures c.put_three-2.ensures c.put_three-3.ensures c.put_three-4.ensures
    c.put_three-5.ensures
