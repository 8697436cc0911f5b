-- Nets and schedules: nodes with finish and order edges and with units, and what a play of H cycles keeps. Its starts are
-- a function s: s v is the start of v, or H where v has not started. No promise and no demand is stated with them, so nobody
-- needs to believe them. That every play of the model is a schedule of its block's net is in proofs/PlaySchedule.
use Rattle.std.specs.Prelude.{ℕ, ◌+◌, ◌≤◌, ◌<◌, ◌≡◌, Bool, true, false, ◌&&◌, leb, ltb, eqb, length}
use Rattle.lists.specs.Lists.{pick, numbers_where}

-- the nodes are those below N. Edges lead up, none that leaves an EX is an order edge, each lowest latency is 1 at least,
-- and each kind has a unit
pub record Net : Type 1 where
  pub N : ℕ
  -- u before v by a finish edge, by an order edge
  pub Fin : ℕ → ℕ → Type 0
  pub Ord : ℕ → ℕ → Type 0
  -- lowest and highest latency
  pub lo : ℕ → ℕ
  pub hi : ℕ → ℕ
  -- the EX nodes, their kinds, and how many units a kind has
  pub ex : ℕ → Bool
  pub kind : ℕ → ℕ
  pub units : ℕ → ℕ
  pub fin_lt : (u v : ℕ) → Fin u v → u < v
  pub ord_lt : (u v : ℕ) → Ord u v → u < v
  pub ex_ord : (u v : ℕ) → ex u ≡ true → Ord u v → ⊥
  pub lo_pos : (v : ℕ) → v < N → 1 ≤ lo v
  pub units_pos : (k : ℕ) → 1 ≤ units k

-- latencies inside their limits
pub record Fits (G : Net) (lat : ℕ → ℕ) : Type 0 where
  pub low : (v : ℕ) → v < G.N → G.lo v ≤ lat v
  pub high : (v : ℕ) → v < G.N → lat v ≤ G.hi v

-- a path of one edge or more
pub data Way (G : Net) : ℕ → ℕ → Type 0 where
  by_fin : {u v : ℕ} → G.Fin u v → Way G u v
  by_ord : {u v : ℕ} → G.Ord u v → Way G u v
  then_fin : {u x v : ℕ} → Way G u x → G.Fin x v → Way G u v
  then_ord : {u x v : ℕ} → Way G u x → G.Ord x v → Way G u v

-- v is ready by x: its ready time is at most x
pub record Done (G : Net) (lat s : ℕ → ℕ) (v x : ℕ) : Type 0 where
  pub fin : (u : ℕ) → G.Fin u v → s u + lat u ≤ x
  pub ord : (u : ℕ) → G.Ord u v → s u ≤ x

-- the EX nodes of v's kind
abbrev pub peer : Net → ℕ → ℕ → Bool
peer G v u = G.ex u && eqb (G.kind u) (G.kind v)

-- those of them that run at t when v has its turn: they started before t, or at t and stand before v
unfoldable pub busy : Net → (ℕ → ℕ) → (ℕ → ℕ) → ℕ → ℕ → ℕ → Bool
busy G lat s v t u = peer G v u && (ltb t (s u + lat u) && leb (s u + pick (leb v u) 1 0) t)

-- how many they are
abbrev pub count_busy : Net → (ℕ → ℕ) → (ℕ → ℕ) → ℕ → ℕ → ℕ
count_busy G lat s v t = length (numbers_where 0 G.N (busy G lat s v t))

-- that one of them runs, as facts
pub record Busy (G : Net) (lat s : ℕ → ℕ) (v t u : ℕ) : Type 0 where
  pub ex : G.ex u ≡ true
  pub same : G.kind u ≡ G.kind v
  pub runs : t < s u + lat u
  pub begun : s u ≤ t
  pub tie : v ≤ u → s u < t

-- a play of H cycles
pub record Sched (G : Net) (lat : ℕ → ℕ) (H : ℕ) (s : ℕ → ℕ) : Type 0 where
  pub top : (v : ℕ) → v < G.N → s v ≤ H
  -- what has started was ready
  pub ready : (v : ℕ) → v < G.N → s v < H → Done G lat s v (s v)
  -- off EX nothing waits
  pub prompt : (v t : ℕ) → v < G.N → G.ex v ≡ false → t < s v → Done G lat s v t → ⊥
  -- at EX what waits does so for all units of its kind
  pub waits : (v t : ℕ) → v < G.N → G.ex v ≡ true → t < s v → Done G lat s v t → G.units (G.kind v) ≤ count_busy G lat s v t
  -- what started had a unit
  pub room : (v : ℕ) → v < G.N → G.ex v ≡ true → s v < H → count_busy G lat s v (s v) < G.units (G.kind v)
