-- The rule of an entry goes by its eight bytes; by the six that a block keeps, and the two zeros. Assumes nothing.
use mathlib.Core.Path.{◌≡◌, refl, sym, ap, ◌∙◌}
use mathlib.Core.Bool.{Bool, true, false, not, ◌&&◌, and-true, false≢true}
use mathlib.Core.List.{List, [], ◌∷◌}
use Prim.Native.Nat.{ℕ, ◌≤◌, ◌<◌}
use native.Mathlib.Omega.{arith}
use lib.ListN.{get_or}
use lib.Dec.{leb, ltb, eqb}
use borrow.Author.Tests.{eqb-true, leb-true, lt-ltb, le-ltb, not-false}
use Rattle.record.specs.Rules.{kind, register, used_bytes, unused_bytes, wrong_byte, broken, entry_byte}
use Rattle.record.specs.Layout.{entry_at, entry_bytes}
use Rattle.record.specs.inside.EntryBytes.{byte_of, some_broken, wrong_entry}
use Rattle.record.specs.declared.Entry.{Entry}
use Rattle.lists.specs.Lists.{pick, tab, tab_from, least, least_from, exists}
use Rattle.lists.proofs.Bools.{by_test}

-- ---- the eight rules at once
-- some rule of eight is broken where not all of them hold
pub all_eight : (a b c d e f g h : Bool) → not (a && b && c && d && e && f && g && h) ≡ some_broken (a ∷ b ∷ c ∷ d ∷ e ∷ f ∷ g ∷ h ∷ [])
unfolding exists least least_from
all_eight false b c d e f g h = refl
all_eight true false c d e f g h = refl
all_eight true true false d e f g h = refl
all_eight true true true false e f g h = refl
all_eight true true true true false f g h = refl
all_eight true true true true true false g h = refl
all_eight true true true true true true false h = refl
all_eight true true true true true true true false = refl
all_eight true true true true true true true true = refl

-- as six where the last two hold
pub first_six : (a b c d e f : Bool) → not (a && b && c && d && e && f) ≡ some_broken (a ∷ b ∷ c ∷ d ∷ e ∷ f ∷ true ∷ true ∷ [])
first_six a b c d e f = rw (← all_eight a b c d e f true true, and-true, and-true) refl

-- the same, each tested after the one before it
pub six_in_turn : (a b c d e f : Bool) → not (a && (b && (c && (d && (e && f))))) ≡ some_broken (a ∷ b ∷ c ∷ d ∷ e ∷ f ∷ true ∷ true ∷ [])
six_in_turn false b c d e f = first_six false b c d e f
six_in_turn true false c d e f = first_six true false c d e f
six_in_turn true true false d e f = first_six true true false d e f
six_in_turn true true true false e f = first_six true true true false e f
six_in_turn true true true true e f = first_six true true true true e f

not_one : (a b : Bool) → not a ≡ not b → a ≡ b
not_one true true e = refl
not_one true false e = absurd (false≢true e)
not_one false true e = absurd (false≢true (sym e))
not_one false false e = refl

-- by whether the first six hold, and the last two
six_and_two : (a b c d e f g h ok : Bool) → not ok ≡ some_broken (a ∷ b ∷ c ∷ d ∷ e ∷ f ∷ true ∷ true ∷ [])
    → not (ok && g && h) ≡ some_broken (a ∷ b ∷ c ∷ d ∷ e ∷ f ∷ g ∷ h ∷ [])
six_and_two a b c d e f g h ok p =
    let six = a && b && c && d && e && f in
    rw (not_one ok six (p ∙ sym (first_six a b c d e f))) (all_eight a b c d e f g h)

-- ---- the bytes of an entry
-- the bytes x with zeros for 6 and 7
abbrev six : (ℕ → ℕ) → ℕ → ℕ
six x k = get_or (x 0 ∷ x 1 ∷ x 2 ∷ x 3 ∷ x 4 ∷ x 5 ∷ 0 ∷ 0 ∷ []) k 0

-- the rules of an entry that is used where t holds
abbrev rules : Bool → (ℕ → ℕ) → List Bool
rules t x = pick t (used_bytes x) (unused_bytes x)

-- the rule of an instruction's entry, and of one from n on
pub wrong_used : (n i : ℕ) (e : Entry) → i < n → some_broken (used_bytes (byte_of e)) ≡ wrong_entry n i e
unfolding wrong_byte
wrong_used n i e l = ap (λ (t : Bool). some_broken (rules t (byte_of e))) (sym (lt-ltb i n l))

pub wrong_unused : (n i : ℕ) (e : Entry) → n ≤ i → some_broken (unused_bytes (byte_of e)) ≡ wrong_entry n i e
unfolding wrong_byte
wrong_unused n i e l = ap (λ (t : Bool). some_broken (rules t (byte_of e))) (sym (le-ltb i n l))

-- by the first six bytes, and the last two
rules_eight : (t : Bool) (x : ℕ → ℕ) (ok : Bool) → not ok ≡ some_broken (rules t (six x))
    → not (ok && eqb (x 6) 0 && eqb (x 7) 0) ≡ some_broken (rules t x)
unfolding used_bytes unused_bytes tab tab_from
rules_eight true x ok p =
    six_and_two (kind (x 0)) (leb 1 (x 1)) (leb (x 1) (x 2)) (register (x 3)) (register (x 4)) (register (x 5)) _ _ ok p
rules_eight false x ok p =
    six_and_two (eqb (x 0) 0) (eqb (x 1) 0) (eqb (x 2) 0) (eqb (x 3) 0) (eqb (x 4) 0) (eqb (x 5) 0) _ _ ok p

-- a record's entry breaks its rule by the entry read off it and its last two bytes
pub broken_is : (s : List ℕ) (i : ℕ) (ok : Bool) → not ok ≡ wrong_entry (get_or s 4 0) i (entry_at s i)
    → not (ok && eqb (entry_byte s i 6) 0 && eqb (entry_byte s i 7) 0) ≡ broken s i
unfolding broken wrong_byte entry_at entry_bytes
broken_is s i ok e = rules_eight (ltb i (get_or s 4 0)) (entry_byte s i) ok e

-- bytes that are equal break their rules alike
pub wrong_ext : (n i : ℕ) (x y : ℕ → ℕ) → ((k : ℕ) → k < 8 → x k ≡ y k) → (k : ℕ) → wrong_byte n i x k ≡ wrong_byte n i y k
unfolding wrong_byte used_bytes unused_bytes tab tab_from
wrong_ext n i x y h k =
    rw (
      h 0 (omega arith),
      h 1 (omega arith),
      h 2 (omega arith),
      h 3 (omega arith),
      h 4 (omega arith),
      h 5 (omega arith),
      h 6 (omega arith),
      h 7 (omega arith),
    )
    refl

-- ---- an entry no byte of which is wrong
-- its last two bytes are zero
pub last_two : (n i : ℕ) (x : ℕ → ℕ) → wrong_byte n i x 6 ≡ false → wrong_byte n i x 7 ≡ false → (x 6 ≡ 0) × (x 7 ≡ 0)
unfolding wrong_byte used_bytes unused_bytes tab tab_from
last_two n i x d e =
    by_test (ltb i n)
    (λ t. (eqb-true _ _ (not-false _ (rw t at d)), eqb-true _ _ (not-false _ (rw t at e))))
    (λ t. (eqb-true _ _ (not-false _ (rw t at d)), eqb-true _ _ (not-false _ (rw t at e))))

-- its kind and its latencies, where it is an instruction
pub first_three : (n i : ℕ) (x : ℕ → ℕ) → i < n → wrong_byte n i x 0 ≡ false → wrong_byte n i x 1 ≡ false → wrong_byte n i x 2 ≡ false
    → (x 0 ≤ 3) × (1 ≤ x 1) × (x 1 ≤ x 2)
unfolding wrong_byte used_bytes kind
first_three n i x l d e f =
    let t = lt-ltb i n l in (
      leb-true (x 0) 3 (not-false _ (rw t at d)),
      leb-true 1 (x 1) (not-false _ (rw t at e)),
      leb-true (x 1) (x 2) (not-false _ (rw t at f)),
    )
