-- Times as the code fills them in: the five starts of instruction i, one after the other, each a 16-bit number. That these are
-- the rules' is in proofs/StageTimes.
use Rattle.std.specs.Prelude.{ℕ, ◌+◌, ◌-◌, ◌%◌, min, max, List, map, set}
use Rattle.lists.specs.Sums.{largest, sum}
use Rattle.model.specs.Nodes.{IF, ID, EX, WB, CM, node}
use Rattle.unpacked.specs.declared.Instruction.{Instruction}
use Rattle.unpacked.specs.inside.UnpackedBlock.{high_of}
use Rattle.unpacked.specs.inside.ReadyByStage.{ready_if, ready_id, ready_cm}
use Rattle.pairs.specs.inside.PairRows.{finish_ex}

-- node v starts at x
abbrev pub starts : List ℕ → ℕ → ℕ → List ℕ
starts s v x = set s v (x % 65536)

-- IF and ID
unfoldable pub fetched : ℕ → ℕ → ℕ → ℕ → List ℕ → ℕ → List ℕ
fetched q f w d s i =
    let s' = starts s (node IF i) (ready_if q f s i) in
    starts s' (node ID i) (ready_id w d s' i)

-- EX, WB and CM, EX starting at x and taking l
unfoldable pub committed : ℕ → ℕ → ℕ → List ℕ → ℕ → List ℕ
committed c l x s i =
    let s' = starts (starts s (node EX i) x) (node WB i) (x + l) in
    starts s' (node CM i) (ready_cm c s' i)

-- the latest start of an EX that is ready at r: row has its earlier ones, most is the largest latency of its later ones or 0
unfoldable pub latest_of : List Instruction → List ℕ → List ℕ → ℕ → ℕ → ℕ
latest_of u s row most r =
    let b = r + (max most 1 - 1) in
    min (b + sum (map (high_of u) row)) (max b (largest (map (finish_ex u s) row)))
