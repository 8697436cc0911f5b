-- Tables by index, and the loop that fills one from the front. Assumes nothing.
use mathlib.Core.Path.{◌≡◌, refl, sym, ap, ◌∙◌}
use mathlib.Core.List.{List, map}
use mathlib.Core.Logic.{inl, inr}
use Prim.Native.Nat.{ℕ, zero, suc, ◌+◌, ◌<◌}
use native.Mathlib.Nat.{add-zero, zero-add, add-suc, suc-add, le_of_suc-le-suc, not-suc-le-zero}
use native.Mathlib.Omega.{arith}
use lib.ListN.{length, get_or, set, length-map}
use lib.Seq.{ext_get_or, get_or-set_same, get_or-set_other}
use borrow.Author.Count.{below_more}
use Rattle.lists.specs.Lists.{In, tab_from, tab}

length_from : {A : Type 0} (f : ℕ → A) (i n : ℕ) → length (tab_from f i n) ≡ n
unfolding tab_from
length_from f i zero = refl
length_from f i (suc n) = ap suc (length_from f (suc i) n)

get_or_from : {A : Type 0} (f : ℕ → A) (i n k : ℕ) (d : A) → k < n → get_or (tab_from f i n) k d ≡ f (i + k)
unfolding tab_from
get_or_from f i zero k d h = absurd (not-suc-le-zero h)
get_or_from f i (suc n) zero d h = rw add-zero refl
get_or_from f i (suc n) (suc k) d h = get_or_from f (suc i) n k d (le_of_suc-le-suc h) ∙ ap f (suc-add i k ∙ sym (add-suc i k))

pub length_tab : {A : Type 0} (n : ℕ) (f : ℕ → A) → length (tab n f) ≡ n
unfolding tab
length_tab n f = length_from f 0 n

pub get_or_tab : {A : Type 0} (n : ℕ) (f : ℕ → A) (k : ℕ) (d : A) → k < n → get_or (tab n f) k d ≡ f k
unfolding tab
get_or_tab n f k d h = get_or_from f 0 n k d h ∙ ap f (zero-add k)

in_from : {A : Type 0} (f : ℕ → A) (x : A) (i n : ℕ) → In x (tab_from f i n) → (k : ℕ) × (k < i + n) × (x ≡ f k)
unfolding tab_from
in_from f x i zero h = absurd h
in_from f x i (suc n) (inl e) = (i, omega arith, e)
in_from f x i (suc n) (inr h) = let r = in_from f x (suc i) n h in (r.0, omega (arith, r.1), r.2)

-- what is in a table is f k for a k below n
pub in_tab : {A : Type 0} (n : ℕ) (f : ℕ → A) (x : A) → In x (tab n f) → (k : ℕ) × (k < n) × (x ≡ f k)
unfolding tab
in_tab n f x h = let r = in_from f x 0 n h in (r.0, omega (arith, r.1), r.2)

-- a list that has n elements, f k at each k, is tab n f
pub is_tab : {A : Type 0} (n : ℕ) (f : ℕ → A) (d : A) (l : List A) → length l ≡ n → ((k : ℕ) → k < n → get_or l k d ≡ f k) → l ≡ tab n f
is_tab n f d l e h =
    ext_get_or d l (tab n f) (e ∙ sym (length_tab n f))
    (λ k p. let q : k < n = omega (arith, e) in h k q ∙ sym (get_or_tab n f k d q))

-- one store more, where each element below i is the table's
pub store_more : {A : Type 0} (l : List A) (i : ℕ) (v d : A) (f : ℕ → A) → i < length l → ((j : ℕ) → j < i → get_or l j d ≡ f j) → v ≡ f i
    → (j : ℕ) → j < i + 1 → get_or (set l i v) j d ≡ f j
store_more l i v d f h a e =
    below_more (λ j. get_or (set l i v) j d ≡ f j) i
    (λ j q. get_or-set_other l i j v d (λ x. omega arith) ∙ a j q)
    (get_or-set_same l i v d h ∙ e)

-- the length of an array of structs, from what owning it tells: for `search (length_mapped, rules)`
pub length_mapped : (X Y : Type 0) (f : X → Y) (l : List X) (n : ℕ) → length (map f l) ≡ n → length l ≡ n
length_mapped X Y f l n e = sym (length-map l f) ∙ e
