-- "Round rules", "Rounds are repeated": the rounds one by one, counted from 0.
use Rattle.std.specs.Prelude.{ℕ, zero, suc, Bool, ◌&&◌, ◌||◌, List, []}
use Rattle.record.specs.declared.Block.{Block}
use Rattle.model.specs.Paths.{Pairs, has, pairs, contending}
use Rattle.model.specs.Rounds.{earliest, round, apart, new}

-- "a set of pairs known to be apart, empty at first": the one with which round k goes
unfoldable pub known_at : Block → ℕ → Pairs
known_at b zero = []
known_at b (suc k) =
    let known = known_at b k in
    let found = new b (contending b) known (earliest b) (round b (contending b) known) in
    pairs b.n (λ i j. has known i j || found i j)

-- its latest starts
unfoldable pub late_at : Block → ℕ → List ℕ
late_at b k = round b (contending b) (known_at b k)

-- "a contending pair is apart if one's latest finish is at most the other's earliest ready.", late having the latest starts
unfoldable pub apart_by : Block → List ℕ → ℕ → ℕ → Bool
apart_by b late i j = has (contending b) i j && apart b (earliest b) late i j

-- "After the round"
abbrev pub apart_at : Block → ℕ → ℕ → ℕ → Bool
apart_at b k = apart_by b (late_at b k)
