-- "Blocks worked by hand", its end: the fields of the report, numbers as text and "One space parts the fields".
use Rattle.std.specs.Prelude.{ℕ, zero, suc, ◌+◌, ◌/◌, ◌%◌, List, [], ◌∷◌, ◌++◌, ltb}
use Prim.Native.Char.{code}
use Rattle.lists.specs.Lists.{pick}
use Rattle.lists.specs.Bytes.{ascii}

-- the decimal digits of a number that has k at most, with no zero in front
unfoldable pub digits_of : ℕ → ℕ → List ℕ
digits_of zero x = []
digits_of (suc k) x = pick (ltb x 10) ((code "0" + x) ∷ []) (digits_of k (x / 10) ++ ((code "0" + x % 10) ∷ []))

-- a number of 64 bits in decimal: it has 20 digits at most
unfoldable pub decimal : ℕ → List ℕ
decimal x = digits_of 20 x

-- "One space parts the fields", and a line end follows the last
unfoldable pub spaced : List (List ℕ) → List ℕ
spaced [] = []
spaced (x ∷ []) = x ++ ascii "\n"
spaced (x ∷ y ∷ ys) = x ++ (ascii " " ++ spaced (y ∷ ys))
