-- What an answer means is one to one, so each promise leaves one outcome. Assumes nothing.
use mathlib.Core.Path.{◌≡◌, refl, sym, ap, ◌∙◌}
use mathlib.Core.Bool.{false}
use mathlib.Core.List.{List}
use Prim.Native.Nat.{ℕ, suc, ◌-◌}
use native.Mathlib.Omega.{arith}
use lib.Dec.{eqb}
use borrow.Author.Tests.{ne_eqb}
use Rattle.lists.proofs.OneOutcome.{one_value}
use Rattle.record.specs.Refusals.{number_of, place_of, meaning, read_verdict}
use Rattle.record.specs.Layout.{decoded}
use Rattle.record.specs.Promises.{ByteString, Reads, TestsBlock, Writes}
use Rattle.record.specs.Refusals.{Answer}
use Rattle.std.specs.Prelude.{Result, IfOk, IsOkAnd, Ok as Accepted, Err as Refused}
use Rattle.record.specs.declared.Block.{Block}
use Rattle.record.specs.declared.Reason.{Reason}
use Rattle.record.proofs.ReasonNumbers.{number_from_one, reason_one}

-- refusals are numbered from 1
pub number_above : (r : Reason) → number_of r ≡ suc (number_of r - 1)
number_above r = omega (arith, number_from_one r)

pub refused_not : (r : Reason) → eqb (number_of r) 0 ≡ false
refused_not r = ne_eqb (number_of r) 0 (λ e. omega (arith, number_from_one r))

-- two answers that mean the same, and give the same where they accept, are one
pub result_one : {A : Type 0} (z : A) (a b : Result A Reason) → meaning a ≡ meaning b → IfOk a (λ x. x ≡ z) → IfOk b (λ x. x ≡ z) → a ≡ b
result_one z (Accepted x) (Accepted y) e h k = ap Accepted (h ∙ sym k)
result_one z (Accepted x) (Refused r) e h k = absurd (omega (arith, number_from_one r, ap (λ (p : ℕ × ℕ). p.0) e))
result_one z (Refused r) (Accepted x) e h k = absurd (omega (arith, number_from_one r, ap (λ (p : ℕ × ℕ). p.0) e))
result_one z (Refused r) (Refused q) e h k =
    ap Refused (reason_one r q (ap (λ (p : ℕ × ℕ). p.0) e) (ap (λ (p : ℕ × ℕ). p.1) e))

given_none : (a : Answer) → IfOk a (λ x. x ≡ tt)
given_none (Accepted x) = refl
given_none (Refused r) = tt

pub meaning_one : (a b : Answer) → meaning a ≡ meaning b → a ≡ b
meaning_one a b e = result_one tt a b e (given_none a) (given_none b)

-- an answer that accepts means that no test is given
pub accepted_so : {A : Type 0} (a : Result A Reason) {x : A} {v : ℕ × ℕ} → a ≡ Accepted x → meaning a ≡ v → v ≡ (0, 0)
accepted_so a e h = sym h ∙ ap meaning e

-- an answer that means that no test is given accepts
pub accepts_so : {A : Type 0} (P : A → Type 0) (a : Result A Reason) → meaning a ≡ (0, 0) → IfOk a P → IsOkAnd a P
accepts_so P (Accepted x) e h = h
accepts_so P (Refused r) e h = absurd (omega (arith, number_from_one r, ap (λ (p : ℕ × ℕ). p.0) e))

-- two outcomes, an answer and a value each, that mean one verdict and are one value
pub answered_one : {A : Type 0} (a b : Answer) (x y : A) {v : ℕ × ℕ} {z : A} → meaning a ≡ v → x ≡ z → meaning b ≡ v → y ≡ z → (a ≡ b) × (x ≡ y)
answered_one a b x y p e q f = (meaning_one a b (one_value (meaning a) (meaning b) p q), one_value x y e f)

-- the number and the place of a reason have one outcome each
pub number_one : (r : Reason) (x y : ℕ) → x ≡ number_of r → y ≡ number_of r → x ≡ y
number_one r x y = one_value x y

pub place_one : (r : Reason) (x y : ℕ) → x ≡ place_of r → y ≡ place_of r → x ≡ y
place_one r x y = one_value x y

-- reading has one outcome
pub read_one : (s : List ℕ) (x y : Result Block Reason) → Reads s x → Reads s y → x ≡ y
read_one s x y p q = result_one (decoded s) x y (one_value (meaning x) (meaning y) p.answer q.answer) p.block q.block

-- testing a block value has one outcome
pub block_one : (b : Block) (x y : Answer) → TestsBlock b x → TestsBlock b y → x ≡ y
block_one b x y p q = meaning_one x y (one_value (meaning x) (meaning y) p.answer q.answer)

-- writing has one outcome
pub write_one : (b : Block) (o : List ℕ) (x y : Answer) (p q : List ℕ) → Writes b o x p → Writes b o y q → (x ≡ y) × (p ≡ q)
write_one b o x y p q u v = answered_one x y p q u.answer u.output v.answer v.output

-- a reading that refuses by a reason whose number and place are the record's, and one that accepts
module _ (s : List ℕ) (u : ByteString s) where
  pub read_refused : (r : Reason) → read_verdict s ≡ (number_of r, place_of r) → Reads s (Refused r)
  read_refused r e = record { bytes = u; answer = sym e; block = tt }

  pub read_accepted : read_verdict s ≡ (0, 0) → (b : Block) → b ≡ decoded s → Reads s (Accepted b)
  read_accepted e b h = record { bytes = u; answer = sym e; block = h }
