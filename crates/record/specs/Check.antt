-- "Block record, 512 bytes", its end: the check.
use Rattle.std.specs.Prelude.{ℕ, zero, suc, ◌+◌, ◌*◌, ◌%◌, List}
use Rattle.lists.specs.Bytes.{little}

-- "Over the 254 little-endian 16-bit words of bytes 0–507": word k
abbrev pub word : List ℕ → ℕ → ℕ
word s k = little 2 s (2 * k)

-- "a and b start at 0; per word a becomes (a + word) mod 65535": a after k words
unfoldable pub sum_a : List ℕ → ℕ → ℕ
sum_a s zero = 0
sum_a s (suc k) = (sum_a s k + word s k) % 65535

-- "then b becomes (b + a) mod 65535": b after k words
unfoldable pub sum_b : List ℕ → ℕ → ℕ
sum_b s zero = 0
sum_b s (suc k) = (sum_b s k + sum_a s (suc k)) % 65535

-- "The check is b × 65536 + a."
unfoldable pub check_of : List ℕ → ℕ
check_of s = sum_b s 254 * 65536 + sum_a s 254
