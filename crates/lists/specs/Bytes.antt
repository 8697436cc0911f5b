-- "Multi-byte numbers are little-endian." And texts as bytes.
use Rattle.std.specs.Prelude.{ℕ, zero, suc, ◌+◌, ◌*◌, ◌/◌, ◌%◌, List, [], ◌∷◌, get_or}
use Prim.Native.Char.{code}
use Prim.Native.String.{String, [] as no_more, ◌∷◌ as ◌then◌}

-- the number of the w bytes of s from index i on, the lowest first
unfoldable pub little : ℕ → List ℕ → ℕ → ℕ
little zero s i = 0
little (suc w) s i = get_or s i 0 + 256 * little w s (i + 1)

-- a number's w bytes, the lowest first
unfoldable pub bytes : ℕ → ℕ → List ℕ
bytes zero x = []
bytes (suc w) x = x % 256 ∷ bytes w (x / 256)

-- a text's bytes in ASCII
abbrev pub ascii : String → List ℕ
ascii no_more = []
ascii (c then cs) = code c ∷ ascii cs
