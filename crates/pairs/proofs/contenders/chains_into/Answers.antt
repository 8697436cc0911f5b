-- `pairs::contenders::chains_into` meets its contract: the rows passed have the chains, and row 0 has none. Assumes nothing.
use Prim.Native.Nat.{ℕ, ◌+◌, ◌<◌}
use mathlib.Core.Path.{◌∙◌, ◌≡◌, ap, sym}
use mathlib.Core.Bool.{Bool, false}
use mathlib.Core.List.{List}
use native.Mathlib.Omega.{arith}
use lib.ListN.{get_or}
use borrow.Author.Count.{below_more}
use Rattle.model.specs.Nodes.{entry, source}
use Rattle.model.specs.Paths.{has}
use Rattle.model.specs.inside.RegisterChains.{chains}
use Rattle.unpacked.specs.inside.UnpackedBlock.{code}
use Rattle.unpacked.proofs.RegisterSources.{source_most}
use Rattle.pairs.proofs.ChainTable.{chains_next}
use borrow.Author.Rules.{rules}
use Rattle.pairs.specs.inside.PairRows.{chain_at}
use Rattle.pairs.proofs.contenders.chains_into.Goals as goal

pub loop-j-init : goal.loop-j-init
loop-j-init c = (search rules, c.requires, λ b e C i x h l. absurd (omega arith))

pub chain_row-requires : goal.chain_row-requires
chain_row-requires c =
    let t = c.loop-j in
    let p = c.args.v.now.within in
    let l : t.j < c.args.v.now.shape.n = search rules in (
      omega (arith, p.few, l),
      omega (arith, p.first t.j l),
      omega (arith, p.second t.j l),
    )

pub loop-j-preserved : goal.loop-j-preserved
loop-j-preserved c =
    let t = c.loop-j in
    let p = c.args.v.now.within in
    let r = c.chain_row.ensures in
    let a : List (List Bool) = c.chain_row.new.a in
    let l : t.j < c.args.v.now.shape.n = search rules in (
      search rules,
      record { none = λ k h. ap (λ (xs : List Bool). get_or xs k false) (r.kept 0 (omega arith)) ∙ t.invariant.1.none k h },
      λ b e C i z hi.
          let below : i < b.n = omega (arith, e) in
          let here : t.j < b.n = omega (arith, e, l) in
          let before : (y : ℕ) → y < t.j → chain_at t.a (y + 1) (i + 1) ≡ has (chains b) y i = λ y. t.invariant.2 b e C i y hi in
          let first : c.from.result ≡ code (source b (entry b t.j).reads1 t.j) = c.from.ensures ∙ C.first t.j here in
          let second : c.from-in-loop-j.result ≡ code (source b (entry b t.j).reads2 t.j) = c.from-in-loop-j.ensures ∙ C.second t.j here in
          let step = chains_next b t.a t.j i (omega (arith, p.few)) t.invariant.1.none before below here _ _
          (omega (arith, first, source_most b (entry b t.j).reads1 t.j))
          (omega (arith, second, source_most b (entry b t.j).reads2 t.j)) first second in
          below_more (λ y. chain_at a (y + 1) (i + 1) ≡ has (chains b) y i) t.j
          (λ y h. ap (λ (xs : List Bool). get_or xs (i + 1) false) (r.kept (y + 1) (omega arith)) ∙ before y h)
          (r.joined (i + 1) (omega (arith, p.few)) ∙ sym step)
          z,
    )

pub returns : goal.returns
returns c =
    let t = c.loop-j in
    record {
      rows = λ b U. record { at = λ i j hi hj. t.invariant.2 b (sym U.shape.n) U.instructions i j (omega (arith, U.shape.n)) (omega (arith, U.shape.n)) };
    }
