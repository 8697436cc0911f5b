-- `analysis::outputs::put_node` meets its contract. Assumes nothing.
use Prim.Native.Nat.{ℕ, ◌%◌, ◌+◌}
use mathlib.Core.Path.{◌∙◌, ◌≡◌, ap, refl}
use mathlib.Core.List.{◌∷◌, List, []}
use native.Mathlib.Omega.{arith}
use Rattle.lists.specs.Lists.{put}
use Rattle.model.specs.Cycles.{start}
use Rattle.model.specs.Nodes.{fetch, instruction, latency}
use Rattle.model.specs.Rounds.{window_place}
use Rattle.unpacked.specs.declared.Instruction.{Instruction}
use Rattle.unpacked.specs.inside.UnpackedBlock.{high_of, low_of}
use Rattle.unpacked.proofs.StageNumbers.{number_is}
use Rattle.analysis.specs.inside.OutputSteps.{node_into, ready_at}
use Rattle.analysis.proofs.outputs.put_node.Goals as goal

pub latest_ready-ready-requires : goal.latest_ready-ready-requires
latest_ready-ready-requires c =
    let p = c.requires in
    (omega (arith, p.few), p.first, p.second)

-- the six from what was worked out
node_made : (v : ℕ) (u : List Instruction) (early late o : List ℕ) (x y ready f g at at' : ℕ) (o₁ o₂ : List ℕ)
    → x ≡ latency fetch (low_of u (instruction v)) v → y ≡ latency fetch (high_of u (instruction v)) v → ready ≡ ready_at u late v % 65536
    → f ≡ (start early v + x) % 65536 → g ≡ (start late v + y) % 65536 → at ≡ window_place v 0 → at' ≡ window_place v 3
    → o₁ ≡ put o at (start early v ∷ start early v ∷ f ∷ []) → o₂ ≡ put o₁ at' (ready ∷ start late v ∷ g ∷ [])
    → o₂ ≡ node_into v u early late o
unfolding node_into
node_made v u early late o x y ready f g at at' o₁ o₂ ex ey er ef eg ea ea' e₁ e₂ = rw (e₂, e₁, ea, ea', ef, eg, er, ex, ey) refl

pub returns : goal.returns
unfolding latency
returns c =
    let e = number_is c.stage_of-g.result ∙ c.stage_of-g.ensures in
    node_made c.args.v c.args.u.now c.args.times.now.early c.args.times.now.late c.args.out.now _ _ _ _ _ _ _ _ _
    (rw e at c.latency_of-x.ensures.0) (rw e at c.latency_of-y.ensures.0)
    (c.time-2.ensures ∙ ap (λ (z : ℕ). z % 65536) (rw c.stage_of-g.ensures at c.latest_ready-ready.ensures.0))
    (c.time.ensures ∙ ap (λ (z : ℕ). (z + c.latency_of-x.result) % 65536) c.from.ensures)
    (c.time-3.ensures ∙ ap (λ (z : ℕ). (z + c.latency_of-y.result) % 65536) c.from-2.ensures)
    c.window_place.ensures c.window_place-2.ensures
    c.put_three.ensures c.put_three-2.ensures
