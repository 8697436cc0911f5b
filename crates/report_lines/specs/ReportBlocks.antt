-- "Blocks worked by hand", its end: "For E as production block 7, then F as classroom block 8"
use Rattle.std.specs.Prelude.{ℕ}
use Rattle.record.specs.declared.Block.{Block}
use Rattle.model.specs.Blocks.{block_e, block_f}

-- a block with another origin and number
unfoldable pub stamped : ℕ → ℕ → Block → Block
stamped origin number b = record {
  n = b.n;
  q = b.q;
  w = b.w;
  f = b.f;
  d = b.d;
  c = b.c;
  origin = origin;
  number = number;
  entries = b.entries;
}

-- "E as production block 7"
unfoldable pub block_e7 : Block
block_e7 = stamped 2 7 block_e

-- "F as classroom block 8"
unfoldable pub block_f8 : Block
block_f8 = stamped 1 8 block_f
