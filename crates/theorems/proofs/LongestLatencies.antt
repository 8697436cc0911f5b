-- The play of all the highest latencies is no bound: block E, whose results are worked by hand. Assumes nothing.
use Prim.Native.Nat.{ℕ, zero, suc, ◌≤◌, max}
use mathlib.Core.Path.{◌≡◌, refl, ap}
use mathlib.Core.List.{List, [], ◌∷◌}
use native.Mathlib.Omega.{arith}
use lib.ListN.{get_or}
use Rattle.lists.specs.Lists.{tab, tab_from, least, least_from}
use Rattle.lists.proofs.Elements.{get_or_all}
use Rattle.record.specs.Layout.{no_entry}
use Rattle.record.specs.Refusals.{verdict}
use Rattle.record.specs.Promises.{ByteEntry, Whole}
use Rattle.model.specs.Nodes.{entry}
use Rattle.model.specs.Blocks.{block_e}
use Rattle.model.specs.Worked.{summary, worked}
use Rattle.model.proofs.WorkedResults.{worked_by_hand, blocks_accepted}
use Rattle.play.specs.Refusals.{wrong, list_test, latency_test, list_tests}
use Rattle.theorems.specs.Words.{AcceptedList, longest, AnomalyOfE}

longest_e : longest block_e ≡ 4 ∷ 4 ∷ 4 ∷ 12 ∷ []
unfolding longest tab tab_from block_e
longest_e = refl

listed_e : AcceptedList block_e (1 ∷ 4 ∷ 4 ∷ 12 ∷ []) × AcceptedList block_e (4 ∷ 4 ∷ 4 ∷ 12 ∷ [])
unfolding verdict list_tests list_test latency_test wrong least least_from block_e
listed_e = (refl, refl)

-- an entry whose largest number is a byte
six_bytes : (k l h x y z : ℕ) → max k (max l (max h (max x (max y z)))) ≤ 255
    → ByteEntry (record { kind = k; lo = l; hi = h; writes = x; reads1 = y; reads2 = z })
six_bytes k l h x y z m =
    record { kind = omega arith; lo = omega arith; hi = omega arith; writes = omega arith; reads1 = omega arith; reads2 = omega arith }

bytes_e : (i : ℕ) → ByteEntry (entry block_e i)
unfolding block_e
bytes_e zero = six_bytes _ _ _ _ _ _ (omega arith)
bytes_e (suc zero) = six_bytes _ _ _ _ _ _ (omega arith)
bytes_e (suc (suc zero)) = six_bytes _ _ _ _ _ _ (omega arith)
bytes_e (suc (suc (suc zero))) = six_bytes _ _ _ _ _ _ (omega arith)
bytes_e (suc (suc (suc (suc i)))) = rw (get_or_all no_entry 56 i) (six_bytes 0 0 0 0 0 0 (omega arith))

whole_e : Whole block_e
unfolding block_e
whole_e =
    record {
      n = omega arith;
      q = omega arith;
      w = omega arith;
      f = omega arith;
      d = omega arith;
      c = omega arith;
      origin = omega arith;
      number = omega arith;
      entries = refl;
      each = bytes_e;
    }

pub worst_e : AnomalyOfE
unfolding worked summary
worst_e =
    let first : List ℕ → ℕ = λ xs. get_or xs 0 0 in
    let rows = worked_by_hand.1.1.1.1 in
    record {
      whole = whole_e;
      accepted = blocks_accepted.1.1.1.1.0;
      longest_listed = rw longest_e listed_e.1;
      listed = listed_e.0;
      under_longest = rw longest_e (ap first rows.1.1.1.1.1.1.0);
      under_list = ap first rows.1.1.1.1.1.0;
      bounded = ap first rows.0;
      sooner = omega arith;
    }
