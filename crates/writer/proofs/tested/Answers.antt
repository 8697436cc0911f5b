-- `writer::tested` meets its contract: each refusal is the first test that failed. Assumes nothing.
use Rattle.std.proofs.Common.{ℕ, List, Option, Some, None, ◌≡◌, ◌≤◌, ◌<◌, sym, ap, ◌∙◌, arith}
use Rattle.record.specs.Rules.{outside, broken}
use Rattle.record.specs.Layout.{head_bytes, encoded}
use Rattle.record.specs.declared.Block.{Block}
use Rattle.lists.specs.Lists.{least, first_at}
use Rattle.lists.proofs.Least.{stopped_at, stopped_not}
use Rattle.record.proofs.RecordBytes.{length_head}
use Rattle.record.proofs.OutputVerdicts.{head_walk, block_header, block_entry, block_none}
use Rattle.writer.proofs.tested.Goals as goal

-- the walk over the header stopped, or went through
module _ (b : Block) (s : List ℕ) (t : Option ℕ) (e : s ≡ head_bytes b) (h : t ≡ first_at 0 28 (outside s)) where
  walk : least 0 28 (outside s) ≡ least 4 28 (outside (encoded b))
  walk = ap (λ (x : List ℕ). least 0 28 (outside x)) e ∙ head_walk b

  stopped : (k : ℕ) → t ≡ Some k → (k ≡ least 4 28 (outside (encoded b))) × (k < 28)
  stopped k q = let w = stopped_at 0 28 (outside s) k (sym h ∙ q) in (w.0 ∙ walk, w.1)

  through : t ≡ None → 28 ≤ least 4 28 (outside (encoded b))
  through q = omega (arith, stopped_not 0 28 (outside s) (sym h ∙ q), walk)

pub header_fault-requires : goal.header_fault-requires
header_fault-requires c = rw c.requires.0 (omega (arith, length_head c.args.b))

pub returns-in-Some : goal.returns-in-Some
returns-in-Some c =
    let b = c.args.b in
    let w = stopped b c.args.head.now _ c.requires.0 c.header_fault.ensures c.in-Some.k c.in-Some.is in
    record { whole = c.requires.1; answer = sym (block_header b c.in-Some.k w.0 w.1) }

pub returns-in-Some-block_entry_fault : goal.returns-in-Some-block_entry_fault
returns-in-Some-block_entry_fault c =
    let b = c.args.b in
    let past = through b c.args.head.now _ c.requires.0 c.header_fault.ensures c.in_default.is in
    let i = c.in-Some-block_entry_fault.i in
    let w = stopped_at 0 60 (broken (encoded b)) i (sym c.block_entry_fault.ensures ∙ c.in-Some-block_entry_fault.is) in
    record { whole = c.requires.1; answer = sym (block_entry b past i w.0 w.1) }

pub returns-in-None : goal.returns-in-None
returns-in-None c =
    let b = c.args.b in
    let past = through b c.args.head.now _ c.requires.0 c.header_fault.ensures c.in_default.is in
    let none = stopped_not 0 60 (broken (encoded b)) (sym c.block_entry_fault.ensures ∙ c.in-None.is) in
    record { whole = c.requires.1; answer = sym (block_none b past none) }
