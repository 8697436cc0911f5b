-- The EX starts that are fixed, where other notes change: they are kept, and one more instruction may be decoded. Assumes nothing.
use Prim.Native.Nat.{ℕ, ◌+◌, ◌≤◌, ◌<◌}
use mathlib.Core.Path.{◌≡◌, ◌∙◌}
use mathlib.Core.Bool.{false}
use mathlib.Core.List.{List}
use native.Mathlib.Omega.{arith}
use native.Mathlib.Decide.{dec_le}
use lib.ListN.{length, get_or, set}
use lib.Seq.{get_or-set_same, get_or-set_other}
use Rattle.record.specs.declared.Block.{Block}
use Rattle.model.specs.Nodes.{ID, node}
use Rattle.choices.specs.declared.PlayNotes.{PlayNotes}
use Rattle.choices.specs.inside.NoteSteps.{fixed}
use Rattle.choices.specs.inside.PlayNotes.{ends, Starts}

module _ (b : Block) (l : List ℕ) (m : ℕ) (x : PlayNotes) (S : Starts b l m x) (fetch fetched decoded committed : List ℕ) where
  -- the notes of EX are kept
  pub starts_same : Starts b l m (record {
    written = x.written;
    waiting = x.waiting;
    units = x.units;
    fetch = fetch;
    fetched = fetched;
    decoded = decoded;
    committed = committed;
  })
  starts_same =
      record { none = S.none; written = S.written; waiting = S.waiting; gone = S.gone; front = S.front; slots = S.slots }

  -- what stands for the ID of m is added
  module _ (v : ℕ) (some : m < b.n) (few : m < length x.waiting) (is : v ≡ ends b l (node ID m)) where
    abbrev x' : PlayNotes
    x' = record {
      written = x.written;
      waiting = set x.waiting m v;
      units = x.units;
      fetch = fetch;
      fetched = fetched;
      decoded = decoded;
      committed = committed;
    }

    pub starts_more : Starts b l (m + 1) x'
    starts_more =
        record {
          none = S.none;
          written = λ i o t. let w = S.written i o t in (w.0, omega (arith, w.1));
          waiting = λ i o t. waits i o t (dec_le m i);
          gone = λ i o t.
              let w = S.written i (omega arith) t in
              get_or-set_other x.waiting m i v 0 (λ q. omega (arith, w.1)) ∙ S.gone i w.1 t;
          front = S.front;
          slots = S.slots;
        }
      where
        waits : (i : ℕ) → i < m + 1 → fixed x' i ≡ false → Dec (m ≤ i) → get_or (set x.waiting m v) i 0 ≡ ends b l (node ID i)
        waits i o t (yes g) = let q : i ≡ m = omega arith in rw q (get_or-set_same x.waiting m v 0 few ∙ is)
        waits i o t (no g) = get_or-set_other x.waiting m i v 0 (λ q. omega arith) ∙ S.waiting i (omega arith) t
