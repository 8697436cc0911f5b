-- `analysis::outputs::put_four` meets its contract: eight bytes in place. Assumes nothing.
use Prim.Native.Nat.{ℕ, ◌%◌, ◌/◌, ◌+◌, ◌-◌}
use mathlib.Core.Path.{◌∙◌, ◌≡◌, refl, sym}
use mathlib.Core.List.{List, append_assoc}
use native.Mathlib.Omega.{arith}
use lib.ListN.{drop, take}
use lib.Seq.{drop-drop}
use Rattle.std.specs.Int.{to_le_bytes, w16}
use Rattle.lists.specs.Bytes.{bytes}
use Rattle.analysis.specs.Result.{four_of}
use Rattle.analysis.proofs.outputs.put_four.Goals as goal

-- the two bytes of a number cut to 16 bits
cut : (x y : ℕ) (s : List ℕ) → s ≡ to_le_bytes w16 y → y ≡ x % 65536 → s ≡ bytes 2 x
unfolding bytes
cut x y s e d =
    let first : x % 65536 % 256 ≡ x % 256 = omega arith in
    let second : x % 65536 / 256 % 256 ≡ x / 256 % 256 = omega arith in
    e ∙ rw (d, first, second) refl

pub returns : goal.returns
unfolding four_of bytes
returns c =
    let a = c.args in
    let k : a.at + 8 - a.at ≡ 8 = omega arith in
    let x = cut a.x _ _ c.to_le_bytes-x.ensures c.time.ensures in
    let y = cut a.y _ _ c.to_le_bytes-y.ensures c.time-2.ensures in
    let z = cut a.z _ _ c.to_le_bytes-z.ensures c.time-3.ensures in
    let u = cut a.u _ _ c.to_le_bytes-u.ensures c.time-4.ensures in
    rw (c.copy_from_slice.ensures.after, x, y, z, u, k, drop-drop 8 a.at a.out.now)
    (sym (append_assoc (take a.at a.out.now) (four_of a.x a.y a.z a.u) (drop (a.at + 8) a.out.now)))
