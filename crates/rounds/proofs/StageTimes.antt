-- The rules of earliest and latest times as the code works them out: what they make of each stage, and the latest start of an EX
-- from rows. Assumes nothing.
use Prim.Native.Nat.{ℕ, ◌%◌, ◌*◌, ◌+◌, ◌/◌, ◌<◌, ◌≤◌}
use mathlib.Core.Path.{◌∙◌, ◌≡◌, ap, refl, sym}
use mathlib.Core.Bool.{Bool}
use mathlib.Core.List.{List, map}
use native.Mathlib.Omega.{arith}
use borrow.Author.Tests.{ne_eqb}
use Rattle.lists.specs.Lists.{in_order, numbers_where}
use Rattle.lists.specs.Sums.{largest}
use Rattle.lists.proofs.InOrder.{get_or_in_order}
use Rattle.lists.proofs.Members.{map_ext}
use Rattle.lists.proofs.NumbersWhere.{numbers_where_ext, numbers_where_in}
use Rattle.record.specs.declared.Block.{Block}
use Rattle.record.proofs.AcceptedRanges.{Ranges}
use Rattle.model.specs.Cycles.{cycles_each, finish, most_cycles, ready, start}
use Rattle.model.specs.Nodes.{CM, EX, ID, IF, WB, entry, highest, instruction, lowest, node, nodes, source}
use Rattle.model.specs.Paths.{Pairs}
use Rattle.model.specs.Rounds.{R, earliest, latest_ex, latest_start, rival, round}
use Rattle.model.proofs.Latencies.{highest_ex, highest_if, highest_else, lowest_ex, lowest_if, lowest_else}
use Rattle.model.proofs.Limits.{earliest_limit, round_limit}
use Rattle.model.proofs.RoundRules.{ex_short}
use Rattle.model.proofs.TimesInOrder.{latest_looks, ready_looks}
use Rattle.unpacked.specs.declared.Instruction.{Instruction}
use Rattle.unpacked.specs.inside.ReadyByStage.{ready_ex, ready_wb}
use Rattle.unpacked.specs.inside.UnpackedBlock.{code, high_of}
use Rattle.unpacked.proofs.ReadyTimes.{ready_cm_lem, ready_ex_lem, ready_id_lem, ready_if_lem, ready_wb_lem}
use Rattle.pairs.specs.inside.PairRows.{Even, finish_ex}
use Rattle.rounds.specs.inside.FiveStarts.{latest_of}
use Rattle.rounds.proofs.TimesFilled.{Stepped}

-- ---- the latest start of an EX
module _ (b : Block) (A : Ranges b) where
  -- u has the highest latencies
  pub latest_short : (p : ℕ → ℕ → Bool) → Even b.n p → (u : List Instruction) (s row : List ℕ) (most i r : ℕ) → i < b.n
      → ((j : ℕ) → j < b.n → high_of u j ≡ (entry b j).hi)
      → row ≡ numbers_where 0 i (p i) → most ≡ largest (map (λ j. high_of u j) (numbers_where (i + 1) b.n (λ j. p j i)))
      → latest_of u s row most r ≡ latest_ex b p s i r
  unfolding latest_of latest_ex finish_ex finish
  latest_short p even u s row most i r h same q m =
      let f : ℕ → ℕ = λ j. highest b (node EX j) in
      let late : List ℕ = numbers_where (i + 1) b.n (p i) in
      let hi : (j : ℕ) → j < b.n → high_of u j ≡ f j = λ j l. same j l ∙ sym (highest_ex b j) in
      let turned : numbers_where (i + 1) b.n (λ j. p j i) ≡ late = numbers_where_ext (λ j. p j i) (p i) (i + 1) b.n (λ j a l. even.even j i l h) in
      let lates : map (λ j. high_of u j) late ≡ map f late
      = map_ext (λ j. high_of u j) f late (λ j k. hi j (numbers_where_in (p i) (i + 1) b.n j k).1) in
      let sums : map (λ j. high_of u j) (numbers_where 0 i (p i)) ≡ map f (numbers_where 0 i (p i))
      = map_ext (λ j. high_of u j) f (numbers_where 0 i (p i)) (λ j k. hi j (omega (arith, (numbers_where_in (p i) 0 i j k).1))) in
      let ends : map (λ j. start s (node EX j) + high_of u j) (numbers_where 0 i (p i)) ≡ map (λ j. start s (node EX j) + f j) (numbers_where 0 i (p i))
      = map_ext (λ j. start s (node EX j) + high_of u j) (λ j. start s (node EX j) + f j) (numbers_where 0 i (p i))
      (λ j k. ap (λ (x : ℕ). start s (node EX j) + x) (hi j (omega (arith, (numbers_where_in (p i) 0 i j k).1)))) in
      rw (q, m, turned, lates, sums, ends) (sym (ex_short b A p s i r))

-- ---- what the rules make of the stages
module _ (b : Block) (A : Ranges b) (cap : (i : ℕ) → (entry b i).hi ≤ 255) where
  few : (v : ℕ) → v < nodes b → cycles_each * (instruction v + 1) ≤ most_cycles
  few v h = omega (arith, A.n.1)

  earliest_most : (v : ℕ) → v < nodes b → ready b (lowest b) (in_order (ready b (lowest b)) v) v ≤ most_cycles
  unfolding earliest finish
  earliest_most v h =
      let e = earliest_limit b A cap v h in
      omega (arith, e, few v h, get_or_in_order (ready b (lowest b)) 0 (nodes b) v h)

  pub earliest_stepped : Stepped b (λ i. (entry b i).lo) (ready b (lowest b))
  earliest_stepped =
      record {
        looks = record { looks = ready_looks b A (lowest b) };
        at_if = ready_if_lem b (lowest b) (lowest_if b) (lowest_else b);
        at_id = ready_id_lem b (lowest b) (lowest_if b) (lowest_else b);
        at_wb = λ s i. ready_wb_lem b (lowest b) (lowest_if b) (lowest_else b) s i ∙ ap (λ (x : ℕ). ready_wb x s i) (lowest_ex b i);
        at_cm = ready_cm_lem b (lowest b) (lowest_if b) (lowest_else b);
        limit = earliest_most;
      }

  module _ (con known : Pairs) where
    abbrev rule : List ℕ → ℕ → ℕ
    rule = latest_start b (rival con known)

    latest_off : (s : List ℕ) (g i : ℕ) → g < 5 → (g ≡ EX → ⊥) → rule s (node g i) ≡ ready b (highest b) s (node g i)
    unfolding latest_start R
    latest_off s g i h off =
        let e : (5 * i + g) % 5 ≡ g = omega arith in
        rw (e, ne_eqb g EX off) refl

    pub latest_at_ex : (s : List ℕ) (i : ℕ)
        → rule s (node EX i) ≡ latest_ex b (rival con known) s i (ready_ex (code (source b (entry b i).reads1 i)) (code (source b (entry b i).reads2 i)) s i)
    unfolding latest_start R
    latest_at_ex s i =
        let e : (5 * i + 2) % 5 ≡ 2 = omega arith in
        let j : (5 * i + 2) / 5 ≡ i = omega arith in
        rw (e, j, ready_ex_lem b (highest b) (highest_if b) (highest_else b) s i) refl

    round_most : (v : ℕ) → v < nodes b → rule (in_order rule v) v ≤ most_cycles
    unfolding round finish
    round_most v h =
        let e = round_limit b A cap con known v h in
        omega (arith, e, few v h, get_or_in_order rule 0 (nodes b) v h)

    pub round_stepped : Stepped b (λ i. (entry b i).hi) (latest_start b (rival con known))
    round_stepped =
        record {
          looks = record { looks = latest_looks b A (rival con known) };
          at_if = λ s i. latest_off s IF i (omega arith) (λ e. omega arith) ∙ ready_if_lem b (highest b) (highest_if b) (highest_else b) s i;
          at_id = λ s i. latest_off s ID i (omega arith) (λ e. omega arith) ∙ ready_id_lem b (highest b) (highest_if b) (highest_else b) s i;
          at_wb = λ s i.
              latest_off s WB i (omega arith) (λ e. omega arith)
              ∙ ready_wb_lem b (highest b) (highest_if b) (highest_else b) s i
              ∙ ap (λ (x : ℕ). ready_wb x s i) (highest_ex b i);
          at_cm = λ s i. latest_off s CM i (omega arith) (λ e. omega arith) ∙ ready_cm_lem b (highest b) (highest_if b) (highest_else b) s i;
          limit = round_most;
        }
