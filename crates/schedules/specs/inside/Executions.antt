-- The EX of a play by instruction: kind, latency, ready time and start of each. What a schedule keeps of them, and a set S of
-- instructions whose starts are known. Only promises of inside functions use these words. That every play keeps them is in
-- proofs/PlayExecutions, what follows from them in proofs/Choosing.
use Rattle.std.specs.Prelude.{ℕ, ◌+◌, ◌≤◌, ◌<◌, ◌≡◌, Bool, true, false, ◌&&◌, List, leb, ltb, eqb, length, get_or}
use Rattle.lists.specs.Lists.{pick, numbers_where}
use Rattle.record.specs.declared.Block.{Block}
use Rattle.model.specs.Nodes.{EX, node, entry, chosen}
use Rattle.model.specs.Cycles.{start, ready, units, play}

-- n instructions: kind, latency, ready time and start of each one's EX; and how many units a kind has
pub record Work : Type 0 where
  pub n : ℕ
  pub kind : ℕ → ℕ
  pub lat : ℕ → ℕ
  pub ready : ℕ → ℕ
  pub start : ℕ → ℕ
  pub units : ℕ → ℕ

-- those of a play of b under the latencies l
abbrev pub work : Block → List ℕ → Work
work b l =
    let s = play b (chosen b l) in
    record {
      n = b.n;
      kind = λ i. (entry b i).kind;
      lat = λ i. get_or l i 0;
      ready = λ i. ready b (chosen b l) s (node EX i);
      start = λ i. start s (node EX i);
      units = units b;
    }

-- j starts before t, or at t and stands before i
pub record Sooner (W : Work) (j t i : ℕ) : Type 0 where
  pub begun : W.start j ≤ t
  pub tie : i ≤ j → W.start j < t

-- j is of i's kind and runs at t when i has its turn: it started before t, or at t and stands before i
unfoldable pub runs_at : Work → ℕ → ℕ → ℕ → Bool
runs_at W i t j = eqb (W.kind j) (W.kind i) && (ltb t (W.start j + W.lat j) && leb (W.start j + pick (leb i j) 1 0) t)

-- how many they are
abbrev pub count_running : Work → ℕ → ℕ → ℕ
count_running W i t = length (numbers_where 0 W.n (runs_at W i t))

-- what a schedule keeps
pub record Served (W : Work) : Type 0 where
  pub ready : (i : ℕ) → i < W.n → W.ready i ≤ W.start i
  -- what is ready and waits does so for all units of its kind
  pub waits : (i t : ℕ) → i < W.n → W.ready i ≤ t → t < W.start i → W.units (W.kind i) ≤ count_running W i t
  -- what started had a unit
  pub room : (i : ℕ) → i < W.n → count_running W i (W.start i) < W.units (W.kind i)

-- how many of kind k, of those that S has, finish after t
unfoldable pub held : Work → (ℕ → Bool) → ℕ → ℕ → ℕ
held W S k t = length (numbers_where 0 W.n (λ j. S j && (eqb (W.kind j) k && ltb t (W.start j + W.lat j))))

-- of one kind, what S has starts before what it has not
pub record Front (W : Work) (S : ℕ → Bool) : Type 0 where
  pub each : (i j : ℕ) → i < W.n → j < W.n → W.kind i ≡ W.kind j → S i ≡ true → S j ≡ false → Sooner W i (W.start j) j

-- of the times below H, e is the first from which on what S has leaves a unit of kind k free
pub record FreeFrom (W : Work) (S : ℕ → Bool) (H k e : ℕ) : Type 0 where
  pub from : (t : ℕ) → t < H → held W S k t < W.units k → e ≤ t
  pub on : (t : ℕ) → t < H → e ≤ t → held W S k t < W.units k

-- i starts at t, before all others of its kind that S has not
pub record Fixes (W : Work) (S : ℕ → Bool) (i t : ℕ) : Type 0 where
  pub start : W.start i ≡ t
  pub next : (j : ℕ) → j < W.n → W.kind j ≡ W.kind i → S j ≡ false → (j ≡ i → ⊥) → Sooner W i (W.start j) j

-- latencies that the entries of b allow
pub record Fitting (b : Block) (l : List ℕ) : Type 0 where
  pub least : (i : ℕ) → i < b.n → (entry b i).lo ≤ get_or l i 0
  pub most : (i : ℕ) → i < b.n → get_or l i 0 ≤ (entry b i).hi
