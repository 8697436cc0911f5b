-- The ready time of each stage of instruction i, written out edge by edge: s has the starts of the nodes in node order, and
-- every node but an IF or an EX takes one cycle. That they are the model's `ready` is in proofs/ReadyTimes.
use Rattle.std.specs.Prelude.{ℕ, ◌+◌, ◌-◌, max, List, leb, ltb}
use Rattle.lists.specs.Lists.{pick}
use Rattle.model.specs.Nodes.{IF, ID, EX, WB, CM, node, fetch}
use Rattle.model.specs.Cycles.{start}

-- the finish of stage g, which takes l, of the instruction k before i, 0 where there is none
unfoldable pub finish_back : List ℕ → ℕ → ℕ → ℕ → ℕ → ℕ
finish_back s g l k i = pick (leb k i) (start s (node g (i - k)) + l) 0

-- the start of stage g of the instruction before i, 0 where there is none
unfoldable pub start_back : List ℕ → ℕ → ℕ → ℕ
start_back s g i = pick (leb 1 i) (start s (node g (i - 1))) 0

-- the finish of the WB of a source, x being one more than its number, or 0 where there is none
unfoldable pub finish_source : List ℕ → ℕ → ℕ
finish_source s x = pick (ltb 0 x) (start s (node WB (x - 1)) + 1) 0

unfoldable pub ready_if : ℕ → ℕ → List ℕ → ℕ → ℕ
ready_if q f s i = max (max (finish_back s ID 1 q i) (finish_back s IF fetch f i)) (start_back s IF i)

unfoldable pub ready_id : ℕ → ℕ → List ℕ → ℕ → ℕ
ready_id w d s i = max (max (start s (node IF i) + fetch) (max (finish_back s CM 1 w i) (finish_back s ID 1 d i))) (start_back s ID i)

-- x and y: the sources of the two registers that i reads
unfoldable pub ready_ex : ℕ → ℕ → List ℕ → ℕ → ℕ
ready_ex x y s i = max (start s (node ID i) + 1) (max (finish_source s x) (finish_source s y))

-- l: the latency of i's EX
unfoldable pub ready_wb : ℕ → List ℕ → ℕ → ℕ
ready_wb l s i = start s (node EX i) + l

unfoldable pub ready_cm : ℕ → List ℕ → ℕ → ℕ
ready_cm c s i = max (max (start s (node WB i) + 1) (finish_back s CM 1 c i)) (start_back s CM i)
