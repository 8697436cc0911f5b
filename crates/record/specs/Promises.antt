-- "How much each promise has to say": what each operation promises of its outcome. Reading also promises that its bytes are
-- bytes, and every operation that takes a block value that it is one of the code's, so that a theorem on outcomes asks for
-- nothing but the promises and the acceptance.
use Rattle.std.specs.Prelude.{◌≡◌, List, ℕ, ◌≤◌, ◌<◌, length, get_or, Result, IfOk}
use Rattle.record.specs.Layout.{no_entry, decoded}
use Rattle.record.specs.Refusals.{Answer, meaning, read_verdict, block_verdict, write_verdict, written}
use Rattle.record.specs.declared.Block.{Block}
use Rattle.record.specs.declared.Entry.{Entry}
use Rattle.record.specs.declared.Reason.{Reason}

-- "Block record, 512 bytes": what every byte string of the code is, no element above 255
pub record ByteString (s : List ℕ) : Type 0 where
  pub byte : (k : ℕ) → get_or s k 0 < 256

-- "60 entries of 8 bytes": what every entry of the code is, six bytes and two zeros that are not kept
pub record ByteEntry (e : Entry) : Type 0 where
  pub kind : e.kind ≤ 255
  pub lo : e.lo ≤ 255
  pub hi : e.hi ≤ 255
  pub writes : e.writes ≤ 255
  pub reads1 : e.reads1 ≤ 255
  pub reads2 : e.reads2 ≤ 255

-- "12–15 block number, any", "60 entries": what every block value of the code is. Its number has 32 bits, its entries are 60,
-- and all else is bytes
pub record Whole (b : Block) : Type 0 where
  pub n : b.n ≤ 255
  pub q : b.q ≤ 255
  pub w : b.w ≤ 255
  pub f : b.f ≤ 255
  pub d : b.d ≤ 255
  pub c : b.c ≤ 255
  pub origin : b.origin ≤ 255
  pub number : b.number < 4294967296
  pub entries : length b.entries ≡ 60
  pub each : (i : ℕ) → ByteEntry (get_or b.entries i no_entry)

-- "Every public function carries a promise": reading the bytes s, the answer is the verdict, and the block is the bytes'. A
-- refusal has none beside it
pub record Reads (s : List ℕ) (r : Result Block Reason) : Type 0 where
  pub bytes : ByteString s
  pub answer : meaning r ≡ read_verdict s
  pub block : IfOk r (λ b. b ≡ decoded s)

-- "test a block value by 4 and 5": testing the block b, the answer is the verdict
pub record TestsBlock (b : Block) (a : Answer) : Type 0 where
  pub whole : Whole b
  pub answer : meaning a ≡ block_verdict b

-- "no lent byte or number is written": writing the block b to an output that held o and then holds o', the answer is the verdict
-- and the output is the record or untouched
pub record Writes (b : Block) (o : List ℕ) (a : Answer) (o' : List ℕ) : Type 0 where
  pub whole : Whole b
  pub answer : meaning a ≡ write_verdict b o
  pub output : o' ≡ written b o
