-- Each function of the report's lines has one outcome. Assumes nothing.
use Prim.Native.Nat.{ℕ, ◌*◌}
use mathlib.Core.Path.{◌≡◌}
use mathlib.Core.List.{List}
use lib.ListN.{take}
use Rattle.lists.proofs.OneOutcome.{one_value, one_outcome}
use Rattle.report_lines.specs.Report.{header, line, lines_from}
use Rattle.report_lines.specs.Promises.{PutsText}

text_one : (text o : List ℕ) (x y : ℕ) (p q : List ℕ) → PutsText text o x p → PutsText text o y q → (x ≡ y) × (p ≡ q)
text_one text o x y p q u v = one_outcome x y p q u.long u.output v.long v.output

pub header_one : (x y : List ℕ) → x ≡ header → y ≡ header → x ≡ y
header_one x y u v = one_value x y u v

pub line_one : (s : List ℕ) (index : ℕ) (o : List ℕ) (x y : ℕ) (p q : List ℕ) → PutsText (line index s) o x p → PutsText (line index s) o y q
    → (x ≡ y) × (p ≡ q)
line_one s index = text_one (line index s)

pub lines_one : (s : List ℕ) (piece : ℕ) (o : List ℕ) (x y : ℕ) (p q : List ℕ) → PutsText (lines_from (128 * piece) (take 65536 s)) o x p
    → PutsText (lines_from (128 * piece) (take 65536 s)) o y q → (x ≡ y) × (p ≡ q)
lines_one s piece = text_one (lines_from (128 * piece) (take 65536 s))
