-- "Nodes and edges": the nodes, their latencies, and the edges that lead to each.
use Rattle.std.specs.Prelude.{ℕ, zero, suc, ◌+◌, ◌-◌, ◌*◌, ◌/◌, ◌%◌, Bool, ◌&&◌, List, [], ◌∷◌, ◌++◌, map, get_or, leb, eqb}
use Rattle.lists.specs.Lists.{pick}
use Rattle.record.specs.Layout.{no_entry}
use Rattle.record.specs.declared.Block.{Block}
use Rattle.record.specs.declared.Entry.{Entry}

-- "Each instruction has nodes IF, ID, EX, WB, CM in this order."
abbrev pub IF : ℕ
IF = 0

abbrev pub ID : ℕ
ID = 1

abbrev pub EX : ℕ
EX = 2

abbrev pub WB : ℕ
WB = 3

abbrev pub CM : ℕ
CM = 4

-- "Node order is by instruction, then stage.": the number, in that order, of stage g of instruction i
abbrev pub node : ℕ → ℕ → ℕ
node g i = 5 * i + g

-- the stage of node v
abbrev pub stage : ℕ → ℕ
stage v = v % 5

-- the instruction of node v
abbrev pub instruction : ℕ → ℕ
instruction v = v / 5

-- node v is an IF
abbrev pub is_if : ℕ → Bool
is_if v = eqb (stage v) IF

-- node v is an EX
abbrev pub is_ex : ℕ → Bool
is_ex v = eqb (stage v) EX

-- the entry of instruction i
abbrev pub entry : Block → ℕ → Entry
entry b i = get_or b.entries i no_entry

-- "Every latency is 1 except EX": how long a fetch takes
abbrev pub fetch : ℕ
fetch = 1

-- "Every latency is 1 except EX": the latency of node v, f being that of its instruction's IF and x that of its EX
unfoldable pub latency : ℕ → ℕ → ℕ → ℕ
latency f x v = pick (is_ex v) x (pick (is_if v) f 1)

-- "which is lo to hi.": the lowest latency of node v
unfoldable pub lowest : Block → ℕ → ℕ
lowest b v = latency fetch (entry b (instruction v)).lo v

-- the highest
unfoldable pub highest : Block → ℕ → ℕ
highest b v = latency fetch (entry b (instruction v)).hi v

-- the one that a list with a number for each instruction chooses
unfoldable pub chosen : Block → List ℕ → ℕ → ℕ
chosen b l v = latency fetch (get_or l (instruction v) 0) v

-- "Each instruction has nodes": those of a block are the numbers below this one
abbrev pub nodes : Block → ℕ
nodes b = 5 * b.n

-- the edges from stage `from` of each instruction to stage `to` of the one that stands `far` after it
pub record Edges : Type 0 where
  pub from : ℕ
  pub to : ℕ
  pub far : ℕ

-- the same, written short
abbrev pub edges : ℕ → ℕ → ℕ → Edges
edges g h k = record { from = g; to = h; far = k }

-- "Finish edges (the second node isn't ready before the first has finished)", but for those of registers
unfoldable pub finish_edges : Block → List Edges
finish_edges b =
    -- "IF to ID to EX to WB to CM of one instruction;"
    edges IF ID 0 ∷ edges ID EX 0 ∷ edges EX WB 0 ∷ edges WB CM 0
    -- "ID(i) to IF(i+Q), and CM(i) to ID(i+W);"
    ∷ edges ID IF b.q ∷ edges CM ID b.w
    -- "IF(i) to IF(i+f), ID(i) to ID(i+d), CM(i) to CM(i+c);"
    ∷ edges IF IF b.f ∷ edges ID ID b.d ∷ edges CM CM b.c ∷ []

-- "the last instruction before j that writes it, if any": it being register r
unfoldable pub last_writer : Block → ℕ → ℕ → List ℕ
last_writer b r zero = []
last_writer b r (suc i) = let before = last_writer b r i in pick (eqb (entry b i).writes r) (i ∷ []) before

-- the same where j reads r, and 255 is no register
unfoldable pub source : Block → ℕ → ℕ → List ℕ
source b r j = let i = last_writer b r j in pick (eqb r 255) [] i

-- "WB(i) to EX(j) for each register j reads": each i
unfoldable pub sources : Block → ℕ → List ℕ
sources b j = source b (entry b j).reads1 j ++ source b (entry b j).reads2 j

-- "Order edges (not ready before the first has started): IF(i) to IF(i+1), ID(i) to ID(i+1), CM(i) to CM(i+1)."
unfoldable pub order_edges : Block → List Edges
order_edges b = edges IF IF 1 ∷ edges ID ID 1 ∷ edges CM CM 1 ∷ []

-- the nodes from which such edges lead to node v
unfoldable pub into : List Edges → ℕ → List ℕ
into [] v = []
into (e ∷ es) v =
    let rest = into es v in
    pick (eqb e.to (stage v) && leb e.far (instruction v)) (node e.from (instruction v - e.far) ∷ rest) rest

-- the finish-edge predecessors of node v
unfoldable pub finish_into : Block → ℕ → List ℕ
finish_into b v =
    let writers = map (node WB) (sources b (instruction v)) in
    into (finish_edges b) v ++ pick (is_ex v) writers []

-- the order-edge predecessors of node v
unfoldable pub order_into : Block → ℕ → List ℕ
order_into b v = into (order_edges b) v
