-- What the code tests of one start of a state. That all of them make the model's `unfit` is in proofs/UnfitStates.
use Rattle.std.specs.Prelude.{ℕ, Bool, not, ◌&&◌, ◌||◌, leb, ltb, eqb}
use Rattle.model.specs.Cycles.{not_started}

-- a start x that a state of cycle t may not have at node v, the nodes of its block being those below `end`
unfoldable pub unfit_at : ℕ → ℕ → ℕ → ℕ → Bool
unfit_at t end v x = not (eqb x not_started) && (not (ltb x t) || leb end v)
