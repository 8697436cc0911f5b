-- The inequalities from which a round's latest times R (ready), LS (start) and LF (finish) bound every schedule, and those of
-- earliest times. con v u: u may delay v. late v u: u is a later one that counts for v. No promise and no demand is stated
-- with them, so nobody needs to believe them. That they bound is in proofs/RoundsBound.
use Rattle.std.specs.Prelude.{ℕ, ◌+◌, ◌-◌, ◌/◌, ◌≤◌, ◌<◌, min, max, ◌≡◌, Bool, true, not, map, ◌⊎◌, eqb, length}
use Rattle.lists.specs.Lists.{numbers_where}
use Rattle.lists.specs.Sums.{largest, sum}
use Rattle.schedules.specs.inside.Nets.{Net, Way, Done}

-- earliest ready times: the least that the edges allow
pub record Early (G : Net) (ER : ℕ → ℕ) : Type 0 where
  pub least : (v x : ℕ) → v < G.N → ((u : ℕ) → G.Fin u v → ER u + G.lo u ≤ x) → ((u : ℕ) → G.Ord u v → ER u ≤ x) → ER v ≤ x

-- what is taken for apart is so in the schedule s: the one has finished before the other can be ready
abbrev pub Separates : Net → (ℕ → ℕ) → (ℕ → ℕ) → (ℕ → ℕ) → (ℕ → ℕ → Type 0) → Type 0
Separates G lat s ER Apart = (u v : ℕ) → u < G.N → v < G.N → Apart u v → (s u + lat u ≤ ER v) ⊎ (s v + lat v ≤ ER u)

-- latest ready, and what the later ones may add: a later one is any of the nodes from v + 1 on that counts
unfoldable pub base : Net → (ℕ → ℕ → Bool) → (ℕ → ℕ) → ℕ → ℕ
base G late R v = R v + (largest (map G.hi (numbers_where (v + 1) G.N (late v))) - 1)

-- what the earlier ones may run in all: those below v that may delay it
unfoldable pub early_sum : Net → (ℕ → ℕ → Bool) → ℕ → ℕ
early_sum G con v = sum (map G.hi (numbers_where 0 v (con v)))

-- when the last of the earlier ones finishes at the latest
unfoldable pub early_last : (ℕ → ℕ → Bool) → (ℕ → ℕ) → ℕ → ℕ
early_last con LF v = largest (map LF (numbers_where 0 v (con v)))

-- u is another node than v
abbrev pub other : ℕ → ℕ → Bool
other u v = not (eqb u v)

-- what the latest times of a round meet: every other EX of its kind may delay v, is joined to it by a path, or is apart from it
pub record Round (G : Net) (ER : ℕ → ℕ) (Apart : ℕ → ℕ → Type 0) (con late : ℕ → ℕ → Bool) (R LS LF : ℕ → ℕ) : Type 0 where
  pub cover : (v u : ℕ) → v < G.N → u < G.N → G.ex v ≡ true → G.ex u ≡ true → G.kind u ≡ G.kind v → other u v ≡ true
      → (con v u ≡ true) ⊎ (Way G u v ⊎ (Way G v u ⊎ Apart u v))
  pub later : (v u : ℕ) → v < G.N → u < G.N → con v u ≡ true → v < u → ER u < R v → late v u ≡ true
  pub r_fin : (u v : ℕ) → v < G.N → G.Fin u v → LF u ≤ R v
  pub r_ord : (u v : ℕ) → v < G.N → G.Ord u v → LS u ≤ R v
  pub ls_base : (v : ℕ) → v < G.N → R v ≤ LS v
  pub ls_ex : (v : ℕ) → v < G.N → G.ex v ≡ true → G.units (G.kind v) ≤ length (numbers_where 0 G.N (con v))
      → min (base G late R v + early_sum G con v / G.units (G.kind v)) (max (base G late R v) (early_last con LF v)) ≤ LS v
  pub lf : (v : ℕ) → v < G.N → LS v + G.hi v ≤ LF v

-- ready, start and finish of v in a schedule are at most these
pub record Bounded (G : Net) (lat s R LS LF : ℕ → ℕ) (v : ℕ) : Type 0 where
  pub ready : Done G lat s v (R v)
  pub start : s v ≤ LS v
  pub finish : s v + lat v ≤ LF v
