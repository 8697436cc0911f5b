-- `choices::rows::play_block_of` meets its contract: an accepted block has four kinds, and leads back 32 at most. Assumes nothing.
use Prim.Native.Nat.{ℕ, ◌≤◌, ◌<◌}
use mathlib.Core.Path.{◌≡◌}
use mathlib.Core.List.{List}
use native.Mathlib.Omega.{arith}
use native.Mathlib.Decide.{dec_lt}
use Rattle.record.specs.Refusals.{block_verdict}
use Rattle.record.specs.declared.Block.{Block}
use Rattle.record.proofs.AcceptedRanges.{ranges}
use Rattle.choices.specs.declared.Row.{Row}
use Rattle.choices.specs.inside.InstructionRows.{row, InstructionRows, NoneFrom, Kinds}
use Rattle.choices.proofs.rows.play_block_of.Goals as goal

kinds_of : (b : Block) (l : List ℕ) (rows : List Row) → block_verdict b ≡ (0, 0) → InstructionRows b l rows → NoneFrom b.n rows → Kinds rows
kinds_of b l rows a R N = record { each = λ i. each i (dec_lt i b.n) }
  where
    each : (i : ℕ) → Dec (i < b.n) → (row rows i).kind ≤ 3
    each i (yes h) = omega (arith, R.kind i h, ((ranges b a).instruction i h).kind)
    each i (no h) = omega (arith, N.kind i (omega arith))

pub rows_of-requires : goal.rows_of-requires
rows_of-requires c = ((ranges c.args.b c.requires.0).n.1, c.requires.1)

pub invariant_of-result : goal.invariant_of-result
invariant_of-result c =
    let A = ranges c.args.b c.requires.0 in
    let s = c.shape_of.ensures in
    record {
      narrow =
          record {
            q = omega (arith, s.q, A.q.1);
            w = omega (arith, s.w, A.w.1);
            f = omega (arith, s.f, A.f.1);
            d = omega (arith, s.d, A.d.1);
            c = omega (arith, s.c, A.c.1);
          };
      kinds = kinds_of c.args.b c.args.lat.now c.rows_of.result c.requires.0 c.rows_of.ensures.0 c.rows_of.ensures.1;
    }
