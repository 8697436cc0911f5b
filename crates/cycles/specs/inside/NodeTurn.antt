-- What the code works out for one node in one cycle, written out stage by stage. That this is the model's cycle is in
-- proofs/NodeTest and proofs/CycleByNode.
use Rattle.std.specs.Prelude.{ℕ, ◌+◌, max, ◌≡◌, Bool, not, ◌&&◌, List, get_or, set, leb, eqb}
use Rattle.lists.specs.Lists.{pick}
use Rattle.model.specs.Nodes.{IF, ID, EX, WB, node}
use Rattle.model.specs.Cycles.{started}
use Rattle.unpacked.specs.inside.ReadyByStage.{ready_if, ready_id, ready_ex, ready_wb, ready_cm}
use Rattle.unpacked.specs.inside.StageNumbers.{number}
use Rattle.unpacked.specs.inside.UnpackedBlock.{kind_of, first_of, second_of}
use Rattle.unpacked.specs.declared.UnpackedBlock.{UnpackedBlock}
use Rattle.cycles.specs.declared.Turn.{Turn}

-- the ready time of stage g of instruction i: u is its block unpacked, l the latencies, s the starts
unfoldable pub stage_ready : UnpackedBlock → List ℕ → List ℕ → ℕ → ℕ → ℕ
stage_ready u l s i g =
    let fetch = ready_if u.shape.q u.shape.f s i in
    let decode = ready_id u.shape.w u.shape.d s i in
    let execute = ready_ex (first_of u.instructions i) (second_of u.instructions i) s i in
    let write = ready_wb (get_or l i 0) s i in
    let commit = ready_cm u.shape.c s i in
    pick (eqb g IF) fetch (pick (eqb g ID) decode (pick (eqb g EX) execute (pick (eqb g WB) write commit)))

-- from when on stage g can start: an EX that is ready at r waits for its unit, which is free from e on
unfoldable pub from_when : ℕ → ℕ → ℕ → ℕ
from_when g r e = pick (eqb g EX) (max r e) r

-- when each kind's unit is free, after stage g of an instruction of kind k and latency l has started at t
unfoldable pub ended : List ℕ → ℕ → ℕ → ℕ → ℕ → List ℕ
ended ends g k l t = pick (eqb g EX) (set ends k (t + l)) ends

-- the node of a turn
abbrev pub node_of : Turn → ℕ
node_of x = node (number x.g) x.i

-- in a turn the node starts: it has not started, and can. `ends` has when each kind's unit is free
unfoldable pub starting : UnpackedBlock → List ℕ → Turn → List ℕ → List ℕ → Bool
starting u l x s ends =
    not (started s (node_of x))
    && leb (from_when (number x.g) (stage_ready u l s x.i (number x.g)) (get_or ends (kind_of u.instructions x.i) 0)) x.t

-- what a turn makes of the starts s and of when each kind's unit is free
pub record Turned (u : UnpackedBlock) (l : List ℕ) (x : Turn) (s ends s' ends' : List ℕ) : Type 0 where
  pub starts : s' ≡ pick (starting u l x s ends) (set s (node_of x) x.t) s
  pub held : ends' ≡ pick (starting u l x s ends) (ended ends (number x.g) (kind_of u.instructions x.i) (get_or l x.i 0) x.t) ends
