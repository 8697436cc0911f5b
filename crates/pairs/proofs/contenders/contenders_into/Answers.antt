-- `pairs::contenders::contenders_into` meets its contract: each row passed has its contenders. Assumes nothing.
use Prim.Native.Nat.{ℕ}
use mathlib.Core.Path.{◌∙◌, ap}
use mathlib.Core.Bool.{Bool, false}
use mathlib.Core.List.{List}
use native.Mathlib.Omega.{arith}
use lib.ListN.{get_or-replicate}
use borrow.Author.Count.{below_none}
use Rattle.pairs.specs.inside.RowSteps.{nearby}
use Rattle.pairs.proofs.ChainTable.{nearby_contending}
use Rattle.pairs.proofs.RowStore.{rows_more}
use borrow.Author.Rules.{rules}
use Rattle.pairs.proofs.contenders.contenders_into.Goals as goal

pub chains_into-requires : goal.chains_into-requires
chains_into-requires c = record { none = λ k h. get_or-replicate 64 k false false h }

pub loop-j-init : goal.loop-j-init
loop-j-init c = (search rules, below_none _)

pub contenders_of-requires : goal.contenders_of-requires
contenders_of-requires c = (omega (arith, c.args.v.now.within.few), c.args.v.now.within.near)

pub loop-j-preserved : goal.loop-j-preserved
loop-j-preserved c =
    let t = c.loop-j in
    let f = c.contenders_of in
    (search rules, rows_more t.rows t.j f.new.row _ (search rules) t.invariant.1 f.ensures)

pub returns : goal.returns
returns c =
    let t = c.loop-j in
    let g = c.chains_into in
    let v = c.args.v.now in
    let a : List (List Bool) = g.new.a in
    record {
      contend = λ b U. record {
        listed = λ j h.
            t.invariant.1 j (omega (arith, U.shape.n))
            ∙ ap (λ (w : ℕ). nearby w v.instructions a j) U.shape.w
            ∙ nearby_contending b v.shape v.instructions a U (g.ensures.rows b U) j h;
      };
    }
