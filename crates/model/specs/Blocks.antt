-- "Blocks worked by hand". "Q 4, W 8, widths 1, no registers and [1,1] unless said."
use Rattle.std.specs.Prelude.{ℕ, ◌-◌, List, [], ◌∷◌, ◌++◌, length, replicate}
use Rattle.record.specs.Layout.{no_entry}
use Rattle.record.specs.declared.Block.{Block}
use Rattle.record.specs.declared.Entry.{Entry}

-- the kinds that the blocks use
abbrev integer : ℕ
integer = 0

abbrev multiply : ℕ
multiply = 1

abbrev floating : ℕ
floating = 2

-- no register
abbrev no : ℕ
no = 255

-- an instruction: its kind, lowest and highest latency, register written, register read
abbrev does : ℕ → ℕ → ℕ → ℕ → ℕ → Entry
does k lo hi writes reads = record { kind = k; lo = lo; hi = hi; writes = writes; reads1 = reads; reads2 = no }

-- a classroom block with Q 4: its W, its widths, its instructions
abbrev block : ℕ → ℕ → List Entry → Block
block w width es = record {
  n = length es;
  q = 4;
  w = w;
  f = width;
  d = width;
  c = width;
  origin = 1;
  number = 0;
  entries = es ++ replicate (60 - length es) no_entry;
}

-- "one integer"
unfoldable pub block_a : Block
block_a = block 8 1 (does integer 1 1 no no ∷ [])

-- "one multiply [1,4]"
unfoldable pub block_b : Block
block_b = block 8 1 (does multiply 1 4 no no ∷ [])

-- "two multiplies [1,4]"
unfoldable pub block_c : Block
block_c = block 8 1 (does multiply 1 4 no no ∷ does multiply 1 4 no no ∷ [])

-- "as C, second reads what the first writes"
unfoldable pub block_d : Block
block_d = block 8 1 (does multiply 1 4 1 no ∷ does multiply 1 4 no 1 ∷ [])

-- "integer [1,4] writes 1; multiply [4,4] reads 1; multiply [4,4] writes 2; floating [12,12] reads 2"
unfoldable pub block_e : Block
block_e = block 8 1 (does integer 1 4 1 no ∷ does multiply 4 4 no 1 ∷ does multiply 4 4 2 no ∷ does floating 12 12 no 2 ∷ [])

-- "multiply; integer; integer; multiply, the last alone [1,3]"
unfoldable pub block_f : Block
block_f = block 8 1 (does multiply 1 1 no no ∷ does integer 1 1 no no ∷ does integer 1 1 no no ∷ does multiply 1 3 no no ∷ [])

-- "two integers, widths 2"
unfoldable pub block_g : Block
block_g = block 8 2 (does integer 1 1 no no ∷ does integer 1 1 no no ∷ [])

-- "two integers, W 1"
unfoldable pub block_h : Block
block_h = block 1 1 (does integer 1 1 no no ∷ does integer 1 1 no no ∷ [])

-- "integer [10,10] writes 1; multiply reads 1; multiply [2,2]"
unfoldable pub block_i : Block
block_i = block 8 1 (does integer 10 10 1 no ∷ does multiply 1 1 no 1 ∷ does multiply 2 2 no no ∷ [])

-- as D, the second also writes that register: an instruction "that reads and writes one register" is not "its own writer"
unfoldable pub block_j : Block
block_j = block 8 1 (does multiply 1 4 1 no ∷ does multiply 1 4 1 1 ∷ [])
