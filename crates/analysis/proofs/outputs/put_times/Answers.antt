-- `analysis::outputs::put_times` meets its contract. Assumes nothing.
use Prim.Native.Nat.{ℕ, ◌*◌, ◌+◌, ◌<◌}
use mathlib.Core.Path.{◌≡◌}
use mathlib.Core.List.{List}
use borrow.Author.Tests.{le-ltb, lt-ltb}
use Rattle.lists.specs.Bytes.{bytes}
use Rattle.lists.specs.Lists.{put}
use Rattle.model.specs.Cycles.{start}
use Rattle.model.specs.Nodes.{CM, EX, node}
use Rattle.unpacked.specs.declared.Instruction.{Instruction}
use Rattle.pairs.specs.inside.PairRows.{finish_ex}
use Rattle.analysis.specs.Result.{four_of}
use Rattle.analysis.specs.inside.OutputSteps.{times_at}
use borrow.Author.Rules.{rules}
use Rattle.analysis.proofs.outputs.put_times.Goals as goal

-- the entry of an instruction from its four numbers
times-made : (n i : ℕ) (u : List Instruction) (early late o o' : List ℕ) (x y f z : ℕ) → i < n
    → x ≡ start early (node EX i) → y ≡ start late (node EX i) → f ≡ finish_ex u late i → z ≡ start late (node CM i)
    → o' ≡ put o (28 + 8 * i) (four_of x y f (z + 1)) → o' ≡ put o (28 + 8 * i) (times_at n u early late i)
unfolding times_at
times-made n i u early late o o' x y f z l ex ey ef ez e = rw (lt-ltb i n l, ← ex, ← ey, ← ef, ← ez) e

pub returns-then-i-n : goal.returns-then-i-n
returns-then-i-n c =
    times-made c.args.n c.args.i c.args.u.now c.args.times.now.early c.args.times.now.late c.args.out.now _ _ _ _ _ c.if-i-n.true
    c.from-x.ensures c.from-y.ensures c.finish_ex.ensures.0 c.from-z.ensures
    c.put_four.ensures

pub returns-else-i-n : goal.returns-else-i-n
unfolding times_at four_of bytes
returns-else-i-n c =
    rw (le-ltb c.args.i c.args.n (search rules)) c.put_four-else-i-n.ensures
