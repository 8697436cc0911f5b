-- Chains of steps from EX to EX, as a table. Only promises of inside functions use it; that contention comes to this is in
-- proofs/Chains (paths_chains, contending_chains).
use Rattle.std.specs.Prelude.{ℕ, ◌||◌, List, eqb}
use Rattle.lists.specs.Lists.{tab, in_order}
use Rattle.lists.specs.Sums.{any}
use Rattle.record.specs.declared.Block.{Block}
use Rattle.model.specs.Nodes.{sources}
use Rattle.model.specs.Paths.{Pairs, has}

-- the instructions from whose EX one step leads to EX(j), through WB: those that were the last to write what j reads. Its laws
-- are in proofs/Links
abbrev pub links : Block → ℕ → List ℕ
links b j = sources b j

-- row j tells from which i a chain leads to j: one step leads from i to j, or from one to which a chain leads from i
unfoldable pub chains : Block → Pairs
chains b = in_order (λ before j. tab b.n (λ i. any (λ a. eqb a i || has before a i) (links b j))) b.n
