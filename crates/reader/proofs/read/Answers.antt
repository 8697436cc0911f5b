-- `reader::read` meets its contract: each `return` is the first test that failed. Assumes nothing.
use Rattle.std.proofs.Common.{rules, ◌≡◌, ◌≤◌, length, refl, sym, ap, ◌∙◌, arith, ℕ, List, Bool, ltb, Option, unwrap_or}
use borrow.Author.Tests.{ltb-true, ltb-false}
use Rattle.lists.specs.Bytes.{little}
use Rattle.lists.specs.Lists.{least, first_at}
use Rattle.record.specs.Check.{check_of}
use Rattle.record.specs.Rules.{outside, broken}
use Rattle.record.specs.Promises.{ByteString, Reads}
use Rattle.std.specs.Prelude.{Result}
use Rattle.record.specs.declared.Block.{Block}
use Rattle.record.specs.declared.Reason.{Reason}
use Rattle.record.specs.declared.Reason.TheVariants.{Length, Check, Letters, Header, Rule}
use Rattle.lists.proofs.Least.{stopped_at, stopped_not, first_or}
use Rattle.record.proofs.Verdicts.{read_length, read_check, read_letters, read_header, read_entry, read_fine}
use Rattle.record.proofs.Answers.{read_refused, read_accepted}
use Rattle.reader.proofs.read.Goals as goal

-- what is proved of the same bytes as an array
carried : (s t : List ℕ) (r : Result Block Reason) → t ≡ s → Reads t r → Reads s r
carried s t r e x = rw e at x

-- where the walk over the header stops, by whether that is in the letters
stops : (s : List ℕ) (h : Option ℕ) (t : Bool) → h ≡ first_at 0 28 (outside s) → t ≡ ltb (unwrap_or h 28) 4 → ltb (least 0 28 (outside s)) 4 ≡ t
stops s h t e q =
    let w = ap (λ (o : Option ℕ). unwrap_or o 28) e ∙ first_or 0 28 (outside s) (omega arith) in
    sym (q ∙ ap (λ k. ltb k 4) w)

pub returns-in_default : goal.returns-in_default
returns-in_default c =
    let bytes : ByteString c.args.s.now = record { byte = λ k. search (rules, c.type_inv.s k) } in
    read_refused _ bytes Length (read_length _ c.in_default.ensures.1)

pub returns-then-sum-kept : goal.returns-then-sum-kept
returns-then-sum-kept c =
    let s = c.in-Ok.s.now in
    let same = c.in-Ok.ensures.1.same in
    let bytes : ByteString s = record { byte = λ k. rw same (search (rules, c.type_inv.s k)) } in
    let long : length s ≡ 512 = rw same c.in-Ok.ensures.1.long in
    let differ : check_of s ≡ little 4 s 508 → ⊥ = λ e. c.if-sum-kept.true (c.check_of-sum.ensures ∙ e ∙ sym c.four_at-kept.ensures) in
    carried _ s _ same (read_refused s bytes Check (read_check s long differ))

pub returns-then-letters : goal.returns-then-letters
returns-then-letters c =
    let s = c.in-Ok.s.now in
    let same = c.in-Ok.ensures.1.same in
    let bytes : ByteString s = record { byte = λ k. rw same (search (rules, c.type_inv.s k)) } in
    let long : length s ≡ 512 = rw same c.in-Ok.ensures.1.long in
    let sealed : check_of s ≡ little 4 s 508 = search rules in
    let early = stops s _ _ c.header_fault-h.ensures c.in_letters-letters.ensures ∙ c.if-letters.true in
    carried _ s _ same (read_refused s bytes Letters (read_letters s long sealed _ refl (ltb-true _ _ early)))

pub returns-in-Some : goal.returns-in-Some
returns-in-Some c =
    let s = c.in-Ok.s.now in
    let same = c.in-Ok.ensures.1.same in
    let bytes : ByteString s = record { byte = λ k. rw same (search (rules, c.type_inv.s k)) } in
    let long : length s ≡ 512 = rw same c.in-Ok.ensures.1.long in
    let sealed : check_of s ≡ little 4 s 508 = search rules in
    let k = c.in-Some.k in
    let stop = stopped_at 0 28 (outside s) k (sym c.header_fault-h.ensures ∙ c.in-Some.is) in
    let late = stops s _ _ c.header_fault-h.ensures c.in_letters-letters.ensures ∙ c.if-letters.false in
    let past : 4 ≤ k = omega (arith, stop.0, ltb-false _ _ late) in
    carried _ s _ same (read_refused s bytes (Header k) (read_header s long sealed k stop.0 past stop.1))

pub returns-in-Some-entry_fault : goal.returns-in-Some-entry_fault
returns-in-Some-entry_fault c =
    let s = c.in-Ok.s.now in
    let same = c.in-Ok.ensures.1.same in
    let bytes : ByteString s = record { byte = λ k. rw same (search (rules, c.type_inv.s k)) } in
    let long : length s ≡ 512 = rw same c.in-Ok.ensures.1.long in
    let sealed : check_of s ≡ little 4 s 508 = search rules in
    let i = c.in-Some-entry_fault.i in
    let whole = stopped_not 0 28 (outside s) (sym c.header_fault-h.ensures ∙ c.in_default-h.is) in
    let stop = stopped_at 0 60 (broken s) i (sym c.entry_fault.ensures ∙ c.in-Some-entry_fault.is) in
    carried _ s _ same (read_refused s bytes (Rule i) (read_entry s long sealed _ refl whole i stop.0 stop.1))

pub returns : goal.returns
returns c =
    let s = c.in-Ok.s.now in
    let same = c.in-Ok.ensures.1.same in
    let bytes : ByteString s = record { byte = λ k. rw same (search (rules, c.type_inv.s k)) } in
    let long : length s ≡ 512 = rw same c.in-Ok.ensures.1.long in
    let sealed : check_of s ≡ little 4 s 508 = search rules in
    let whole = stopped_not 0 28 (outside s) (sym c.header_fault-h.ensures ∙ c.in_default-h.is) in
    let none = stopped_not 0 60 (broken s) (sym c.entry_fault.ensures ∙ c.in_default-entry_fault.is) in
    carried _ s _ same (read_accepted s bytes (read_fine s long sealed _ refl whole none) _ c.decode.ensures)
