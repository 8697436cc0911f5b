-- The notes of a play, and what each step of the code does to them: `written` has at 0 a 0, for no source, and from 1 on, by
-- instruction, the finishes of WB; `waiting` those of ID, until EX has a start; `units` until when each unit is held, four
-- numbers a kind, rising; and, each after 32 zeros, `fetch` the starts of IF, `fetched` its finishes, `decoded` those of ID,
-- `committed` those of CM. Only promises of inside functions use these words.
use Rattle.std.specs.Prelude.{ℕ, ◌+◌, ◌-◌, ◌%◌, ◌≤◌, ◌<◌, min, max, ◌≡◌, Bool, not, List, [], ◌∷◌, get_or, set, ltb, eqb}
use Rattle.lists.specs.Lists.{pick, put}
use Rattle.record.specs.declared.Block.{Block}
use Rattle.model.specs.Nodes.{IF, ID, EX, WB, CM, node}
use Rattle.model.specs.Cycles.{units, play_place}
use Rattle.unpacked.specs.declared.Shape.{Shape}
use Rattle.choices.specs.declared.Choice.{Choice}
use Rattle.choices.specs.declared.PlayNotes.{PlayNotes}
use Rattle.choices.specs.declared.Row.{Row}
use Rattle.choices.specs.declared.UnitTimes.{UnitTimes}
use Rattle.choices.specs.inside.InstructionRows.{row}

-- not yet known: a number above every time
abbrev pub never : ℕ
never = 65535

-- EX of instruction i has a start
abbrev pub fixed : PlayNotes → ℕ → Bool
fixed x i = not (eqb (get_or x.written (i + 1) 0) never)

-- what stands beyond the four kinds
abbrev pub no_times : UnitTimes
no_times = record { first = 0; second = 0; third = 0; fourth = 0 }

-- until when the units of kind k are held
abbrev pub unit_times : PlayNotes → ℕ → UnitTimes
unit_times x k = get_or x.units k no_times

-- ---- before the play

-- the number of unit z of a kind with m units: 0, and `never` where there is no such unit
abbrev pub slot : ℕ → ℕ → ℕ
slot m z = pick (ltb z m) 0 never

-- all units of a kind free
pub record UnitsFree (u : UnitTimes) : Type 0 where
  pub first : (b : Block) (k : ℕ) → u.first ≡ slot (units b k) 0
  pub second : (b : Block) (k : ℕ) → u.second ≡ slot (units b k) 1
  pub third : (b : Block) (k : ℕ) → u.third ≡ slot (units b k) 2
  pub fourth : (b : Block) (k : ℕ) → u.fourth ≡ slot (units b k) 3

-- ---- off EX

-- no number of the header leads back over the 32 zeros
pub record Narrow (h : Shape) : Type 0 where
  pub q : h.q ≤ 32
  pub w : h.w ≤ 32
  pub f : h.f ≤ 32
  pub d : h.d ≤ 32
  pub c : h.c ≤ 32

-- the start of IF(i)
unfoldable pub fetch_of : Shape → ℕ → PlayNotes → ℕ
fetch_of h i x = max (max (get_or x.decoded (32 + i - h.q) 0) (get_or x.fetched (32 + i - h.f) 0)) (get_or x.fetch (32 + i - 1) 0)

-- the finish of ID(i), whose IF finishes at f
unfoldable pub decoded_of : Shape → ℕ → ℕ → PlayNotes → ℕ
decoded_of h i f x =
    max (max f (max (get_or x.committed (32 + i - h.w) 0) (get_or x.decoded (32 + i - h.d) 0)) + 1) (get_or x.decoded (32 + i - 1) 0)

-- the finish of CM(i)
unfoldable pub committed_of : Shape → ℕ → PlayNotes → ℕ
committed_of h i x =
    max (max (get_or x.written (i + 1) 0) (get_or x.committed (32 + i - h.c) 0) + 1) (get_or x.committed (32 + i - 1) 0)

-- IF(i), which takes l, and ID(i) noted
unfoldable pub decoded_into : Shape → ℕ → ℕ → PlayNotes → PlayNotes
decoded_into h l i x =
    let f = fetch_of h i x in
    let d = decoded_of h i (f + l) x in
    record {
      written = x.written;
      waiting = set x.waiting i (d % 65536);
      units = x.units;
      fetch = set x.fetch (32 + i) (f % 65536);
      fetched = set x.fetched (32 + i) ((f + l) % 65536);
      decoded = set x.decoded (32 + i) (d % 65536);
      committed = x.committed;
    }

-- CM(i) noted
unfoldable pub committed_into : Shape → ℕ → PlayNotes → PlayNotes
committed_into h i x =
    record {
      written = x.written;
      waiting = x.waiting;
      units = x.units;
      fetch = x.fetch;
      fetched = x.fetched;
      decoded = x.decoded;
      committed = set x.committed (32 + i) (committed_of h i x % 65536);
    }

-- ---- EX

-- the later finish of the sources of i
unfoldable pub sources_of : List Row → PlayNotes → ℕ → ℕ
sources_of rows x i = max (get_or x.written (row rows i).first 0) (get_or x.written (row rows i).second 0)

-- the ready time of EX(i), and `never` where that is not known or EX(i) has a start
unfoldable pub ready_of : List Row → PlayNotes → ℕ → ℕ
ready_of rows x i = max (get_or x.waiting i 0) (sources_of rows x i)

-- from when on a unit of its kind is free
unfoldable pub end_of : List Row → PlayNotes → ℕ → ℕ
end_of rows x i = (unit_times x (row rows i).kind).first

-- from when on it can start
unfoldable pub key_of : List Row → PlayNotes → ℕ → ℕ
key_of rows x i = max (ready_of rows x i) (end_of rows x i)

-- of the m that are decoded, none that waits was decoded before one that stands before it
pub record Rising (m : ℕ) (x : PlayNotes) : Type 0 where
  pub each : (i j : ℕ) → i ≤ j → j < m → get_or x.decoded (32 + i) 0 ≤ get_or x.waiting j 0

-- one of the instructions from c on and below m, at the time from which on it can start
pub record Among (c m : ℕ) (rows : List Row) (x : PlayNotes) (r : Choice) : Type 0 where
  pub from : c ≤ r.at
  pub below : r.at < m
  pub most : r.start ≤ never
  pub start : r.start ≡ key_of rows x r.at

-- none of them can start before it, nor at that time where it stands before it
abbrev pub First : ℕ → ℕ → List Row → PlayNotes → Choice → Type 0
First c m rows x r = (j : ℕ) → c ≤ j → j < m → (r.start ≤ key_of rows x j) × (j < r.at → r.start < key_of rows x j)

-- the one of them that can start first, and of several the first
pub record Soonest (c m : ℕ) (rows : List Row) (x : PlayNotes) (r : Choice) : Type 0 where
  pub among : Among c m rows x r
  pub first : Rising m x → First c m rows x r

-- the choice among them: c where it is ready by its unit's time, else the one that can start first
pub record Chooses (c m : ℕ) (rows : List Row) (x : PlayNotes) (r : Choice) : Type 0 where
  pub among : Among c m rows x r
  pub oldest : ready_of rows x c ≤ end_of rows x c → r.at ≡ c
  pub first : end_of rows x c < ready_of rows x c → Rising m x → First c m rows x r

-- a unit held until e: of the four numbers the least goes
abbrev pub held_until : ℕ → UnitTimes → UnitTimes
held_until e u =
    record {
      first = min u.second e % 65536;
      second = min u.third (max u.second e) % 65536;
      third = min u.fourth (max u.third (max u.second e)) % 65536;
      fourth = max u.fourth (max u.third (max u.second e)) % 65536;
    }

-- a unit of kind k held until e
unfoldable pub held_into : ℕ → ℕ → PlayNotes → PlayNotes
held_into k e x =
    record {
      written = x.written;
      waiting = x.waiting;
      units = set x.units k (held_until e (unit_times x k));
      fetch = x.fetch;
      fetched = x.fetched;
      decoded = x.decoded;
      committed = x.committed;
    }

-- EX(i), of kind k, started at t for l cycles
unfoldable pub started_into : ℕ → ℕ → ℕ → ℕ → PlayNotes → PlayNotes
started_into i t k l x =
    held_into k (t + l)
    (record {
      written = set x.written (i + 1) ((t + l + 1) % 65536);
      waiting = set x.waiting i never;
      units = x.units;
      fetch = x.fetch;
      fetched = x.fetched;
      decoded = x.decoded;
      committed = x.committed;
    })

-- ---- the table

-- what the row of instruction i takes away from its finishes is in them
pub record Noted (rows : List Row) (x : PlayNotes) (i : ℕ) : Type 0 where
  pub decoded : 1 ≤ get_or x.decoded (32 + i) 0
  pub written : (row rows i).latency + 1 ≤ get_or x.written (i + 1) 0
  pub committed : 1 ≤ get_or x.committed (32 + i) 0

-- the row of instruction i written, all of whose times are noted
unfoldable pub row_into : List Row → PlayNotes → ℕ → List ℕ → List ℕ
row_into rows x i o =
    let f = get_or x.fetch (32 + i) 0 in
    let d = get_or x.decoded (32 + i) 0 in
    let w = get_or x.written (i + 1) 0 in
    let c = get_or x.committed (32 + i) 0 in
    put
    (put
    (put
    (put (put o (play_place (node IF i) 0) (f ∷ f ∷ get_or x.fetched (32 + i) 0 ∷ [])) (play_place (node ID i) 0) ((d - 1) ∷ (d - 1) ∷ d ∷ []))
    (play_place (node EX i) 0) (max d (sources_of rows x i) % 65536 ∷ (w - 1 - (row rows i).latency) ∷ (w - 1) ∷ []))
    (play_place (node WB i) 0) ((w - 1) ∷ (w - 1) ∷ w ∷ []))
    (play_place (node CM i) 0) ((c - 1) ∷ (c - 1) ∷ c ∷ [])
