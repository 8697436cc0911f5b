-- The definitions computed at block A, which is written out.
use mathlib.Core.Path.{◌≡◌, refl}
use mathlib.Core.List.{◌∷◌}
use lib.ListN.{replicate}
use Rattle.lists.specs.Lists.{tab, tab_from, least, least_from, exists, joined}
use Rattle.lists.specs.Bytes.{little, bytes}
use Rattle.record.specs.Check.{check_of, sum_a, sum_b}
use Rattle.record.specs.Rules.{header_table, lows, highs, outside, register, kind, used_bytes, unused_bytes, wrong_byte, broken}
use Rattle.record.specs.Layout.{no_entry, head_bytes, entry_bytes, entries_bytes, body, encoded}
use Rattle.record.specs.Refusals.{verdict, length_test, check_test, letters_test, header_test, entry_test, read_tests, block_tests, read_verdict, block_verdict}
use Rattle.record.specs.declared.Block.{Block}

-- one integer instruction [1,1], Q 4, W 8, widths 1
block_a : Block
block_a = record {
  n = 1;
  q = 4;
  w = 8;
  f = 1;
  d = 1;
  c = 1;
  origin = 2;
  number = 7;
  entries = record { kind = 0; lo = 1; hi = 1; writes = 255; reads1 = 255; reads2 = 255 } ∷ replicate 59 no_entry;
}

fine_a : block_verdict block_a ≡ (0, 0)
unfolding block_a verdict block_tests header_test entry_test tab tab_from least least_from exists header_table lows highs outside register kind used_bytes unused_bytes wrong_byte broken encoded body head_bytes entry_bytes entries_bytes joined bytes check_of sum_a sum_b little
fine_a = refl

read_a : read_verdict (encoded block_a) ≡ (0, 0)
unfolding block_a verdict read_tests length_test check_test letters_test header_test entry_test tab tab_from least least_from exists header_table lows highs outside register kind used_bytes unused_bytes wrong_byte broken encoded body head_bytes entry_bytes entries_bytes joined bytes check_of sum_a sum_b little
read_a = refl

-- 512 zeros have the check that they hold, and no letters
zeros : read_verdict (replicate 512 0) ≡ (3, 0)
unfolding verdict read_tests length_test check_test letters_test header_test entry_test tab tab_from least least_from exists header_table lows highs outside register kind used_bytes unused_bytes wrong_byte broken check_of sum_a sum_b little
zeros = refl
