-- Lists by index: a table, pieces joined, a part put in place, the first number at which a test holds, what is in a list, the
-- numbers at which a test holds, a list built in order.
use Rattle.std.specs.Prelude.{ℕ, zero, suc, ◌+◌, ◌-◌, ◌≡◌, ◌⊎◌, Bool, true, false, List, [], ◌∷◌, ◌++◌, length, take, drop, ltb, Option, Some, None}

-- the first where the test holds, else the second
abbrev pub pick : {A : Type 0} → Bool → A → A → A
pick true a b = a
pick false a b = b

-- f i, f (i + 1), ..: n of them
unfoldable pub tab_from : {A : Type 0} → (ℕ → A) → ℕ → ℕ → List A
tab_from f i zero = []
tab_from f i (suc n) = f i ∷ tab_from f (suc i) n

-- f 0, f 1, ..: n of them
unfoldable pub tab : {A : Type 0} → ℕ → (ℕ → A) → List A
tab n f = tab_from f 0 n

-- the lists f 0, f 1, .. one after the other: n of them
unfoldable pub joined : {A : Type 0} → ℕ → (ℕ → List A) → List A
joined zero f = []
joined (suc n) f = joined n f ++ f n

-- the list o with xs in place of its elements from index i on
abbrev pub put : {A : Type 0} → List A → ℕ → List A → List A
put o i xs = take i o ++ xs ++ drop (i + length xs) o

-- the least of i, i + 1, .. (n of them) at which p holds; where there is none, i + n
unfoldable pub least_from : (ℕ → Bool) → ℕ → ℕ → ℕ
least_from p i zero = i
least_from p i (suc n) = pick (p i) i (least_from p (suc i) n)

-- the least k from a on and below b at which p holds; where there is none, b
unfoldable pub least : ℕ → ℕ → (ℕ → Bool) → ℕ
least a b p = least_from p a (b - a)

-- the same where there is one, else none
unfoldable pub first_at : ℕ → ℕ → (ℕ → Bool) → Option ℕ
first_at a b p = pick (ltb (least a b p) b) (Some (least a b p)) None

-- x is one of a list's
abbrev pub In : {A : Type 0} → A → List A → Type 0
In x [] = ⊥
In x (y ∷ ys) = (x ≡ y) ⊎ In x ys

-- P of each element of a list
abbrev pub Every : {A : Type 0} → (A → Type 0) → List A → Type 0
Every P [] = Unit {0}
Every P (x ∷ xs) = P x × Every P xs

-- p holds at some number from a on and below b
unfoldable pub exists : ℕ → ℕ → (ℕ → Bool) → Bool
exists a b p = ltb (least a b p) b

-- the numbers i, i + 1, .. (n of them) at which p holds
unfoldable pub numbers_where_from : (ℕ → Bool) → ℕ → ℕ → List ℕ
numbers_where_from p i zero = []
numbers_where_from p i (suc n) = let rest = numbers_where_from p (suc i) n in pick (p i) (i ∷ rest) rest

-- the numbers from a on and below b at which p holds
unfoldable pub numbers_where : ℕ → ℕ → (ℕ → Bool) → List ℕ
numbers_where a b p = numbers_where_from p a (b - a)

-- k elements in order, each worked out from those before it and its own number
unfoldable pub in_order : {A : Type 0} → (List A → ℕ → A) → ℕ → List A
in_order rule zero = []
in_order rule (suc k) = let before = in_order rule k in before ++ (rule before k ∷ [])
