-- Number and place tell a reason. The law goes by the list of the reasons as they are declared, so that it names none. Assumes nothing.
use mathlib.Core.Path.{◌≡◌, refl, sym, ap, ◌∙◌}
use mathlib.Core.Bool.{Bool, true, false}
use mathlib.Core.Logic.{inl, inr}
use mathlib.Core.List.{List, [], ◌∷◌, map}
use Prim.Native.Nat.{ℕ, suc, ◌≤◌}
use native.Mathlib.Omega.{arith}
use denote.Enum.Declared.{Choice}
use denote.Struct.Field.{Field, usize-field}
use denote.Struct.Values.{Values}
use Rattle.record.specs.Refusals.{number_of, place_of}
use Rattle.record.specs.declared.Reason.{Reason}
use Rattle.record.specs.contracts.Reason as declared

-- ---- an enum some of whose variants carry a place
-- what a variant carries: a place or nothing
abbrev carried : Bool → List Field
carried true = usize-field ∷ []
carried false = []

abbrev carries : List Field → Bool
carries [] = false
carries (f ∷ fs) = true

-- a value of the enum, of whose variants those carry a place for which ts has true
abbrev Variant : List Bool → Type 0
Variant ts = Choice (map carried ts)

placed : (t : Bool) → ℕ → Values (carried t)
placed true p = (p, tt)
placed false p = tt

place_in : (t : Bool) → Values (carried t) → ℕ
place_in true v = v.0
place_in false v = 0

placed_back : (t : Bool) (v : Values (carried t)) → placed t (place_in t v) ≡ v
unfolding placed place_in
placed_back true v = refl
placed_back false v = refl

-- the number, counted from k, and the place of a value
told : ℕ → (ts : List Bool) → Variant ts → ℕ × ℕ
told k [] c = absurd c
told k (t ∷ ts) (inl v) = (k, place_in t v)
told k (t ∷ ts) (inr c) = told (suc k) ts c

told_from : (k : ℕ) (ts : List Bool) (c : Variant ts) → k ≤ (told k ts c).0
unfolding told
told_from k [] c = absurd c
told_from k (t ∷ ts) (inl v) = omega arith
told_from k (t ∷ ts) (inr c) = omega (arith, told_from (suc k) ts c)

told_one : (k : ℕ) (ts : List Bool) (c d : Variant ts) → told k ts c ≡ told k ts d → c ≡ d
unfolding told
told_one k [] c d e = absurd c
told_one k (t ∷ ts) (inl v) (inl w) e =
    ap inl (sym (placed_back t v) ∙ ap (λ (q : ℕ × ℕ). placed t q.1) e ∙ placed_back t w)
told_one k (t ∷ ts) (inl v) (inr d) e = absurd (omega (arith, told_from (suc k) ts d, ap (λ (q : ℕ × ℕ). q.0) e))
told_one k (t ∷ ts) (inr c) (inl w) e = absurd (omega (arith, told_from (suc k) ts c, ap (λ (q : ℕ × ℕ). q.0) e))
told_one k (t ∷ ts) (inr c) (inr d) e = ap inr (told_one (suc k) ts c d e)

-- what f makes of each variant, by its place
table : {A : Type 0} (ts : List Bool) → (Variant ts → A) → List (ℕ → A)
table [] f = []
table (t ∷ ts) f = (λ p. f (inl (placed t p))) ∷ table ts (λ c. f (inr c))

first : {A : Type 0} → (ℕ → A) → List (ℕ → A) → ℕ → A
first z [] = z
first z (g ∷ gs) = g

rest : {A : Type 0} → List (ℕ → A) → List (ℕ → A)
rest [] = []
rest (g ∷ gs) = gs

-- functions that have one table are equal
same_table : {A : Type 0} (ts : List Bool) (f g : Variant ts → A) → table ts f ≡ table ts g → (c : Variant ts) → f c ≡ g c
unfolding table first rest
same_table [] f g e c = absurd c
same_table {A} (t ∷ ts) f g e (inl v) =
    let at_place : ℕ → A = λ p. f (inl (placed t p)) in
    ap (λ (w : Values (carried t)). f (inl w)) (sym (placed_back t v))
    ∙ ap (λ (l : List (ℕ → A)). first at_place l (place_in t v)) e
    ∙ ap (λ (w : Values (carried t)). g (inl w)) (placed_back t v)
same_table (t ∷ ts) f g e (inr c) = same_table ts (λ d. f (inr d)) (λ d. g (inr d)) (ap rest e) c

-- ---- the reasons
-- which of them carry a place
abbrev placed_reasons : List Bool
placed_reasons = map carries declared.the_parts

-- they are numbered from 1 in the order in which they are declared
numbered : (r : Reason) → ◌≡◌ {A = ℕ × ℕ} (number_of r, place_of r) (told 1 placed_reasons (declared.as_values r))
unfolding told table placed place_in
numbered r =
    ap (λ (x : Reason). (number_of x, place_of x)) (sym (declared.the_eta r))
    ∙ same_table placed_reasons (λ c. (number_of (declared.the_make c), place_of (declared.the_make c))) (told 1 placed_reasons) refl (declared.as_values r)

pub number_from_one : (r : Reason) → 1 ≤ number_of r
number_from_one r = omega (arith, ap (λ (q : ℕ × ℕ). q.0) (numbered r), told_from 1 placed_reasons (declared.as_values r))

pub reason_one : (r q : Reason) → number_of r ≡ number_of q → place_of r ≡ place_of q → r ≡ q
reason_one r q d e =
    let same : ◌≡◌ {A = ℕ × ℕ} (number_of r, place_of r) (number_of q, place_of q) = rw (d, e) refl in
    let one = told_one 1 placed_reasons (declared.as_values r) (declared.as_values q) (sym (numbered r) ∙ same ∙ numbered q) in
    sym (declared.the_eta r) ∙ ap declared.the_make one ∙ declared.the_eta q
