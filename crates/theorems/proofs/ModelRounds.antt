-- A round of the model keeps the rules from which its latest times bound every schedule, whatever pairs are known to be
-- apart; and the earliest times keep theirs. Assumes nothing.
--
-- Why: two EX of one kind contend or a path joins them; if they contend and are not known to be apart, the round looks at the
-- one when it works out the other. B allows for the longest of the later ones that it looks at, the sum for all the earlier
-- ones, the largest latest finish for the last of them. A schedule's rules go over nodes, those of the model over instructions:
-- off EX nothing delays, and an EX is known by its instruction.
use Prim.Native.Nat.{ℕ, ◌+◌, ◌*◌, ◌/◌, ◌≤◌, ◌<◌, min, max}
use mathlib.Core.Path.{◌≡◌, refl, sym, ap, ◌∙◌}
use mathlib.Core.Bool.{Bool, true, false, ◌&&◌}
use mathlib.Core.List.{List, map, map-map}
use mathlib.Core.Logic.{◌⊎◌, inl, inr, ⊎_elim}
use native.Mathlib.Omega.{arith}
use native.Mathlib.Nat.{div-le_self}
use lib.Dec.{eqb}
use borrow.Author.Tests.{eqb-true, eqb-false, eq-eqb, ne_eqb, not-true}
use Rattle.lists.specs.Lists.{In, numbers_where}
use Rattle.lists.specs.Sums.{largest, sum}
use Rattle.lists.proofs.Bools.{by_test}
use Rattle.lists.proofs.Members.{in_split}
use Rattle.lists.proofs.NumbersWhere.{numbers_where_front, numbers_where_back, numbers_where_ext}
use Rattle.record.specs.declared.Block.{Block}
use Rattle.record.proofs.AcceptedRanges.{Ranges}
use Rattle.model.specs.Nodes.{EX, nodes, node, stage, instruction, is_ex, entry, lowest, highest, finish_into, order_into}
use Rattle.model.specs.Paths.{edges_into, Edge, Path, Pairs, has, contending}
use Rattle.model.specs.Paths.Path.{edge, on}
use Rattle.model.specs.Cycles.{start, finish, ready}
use Rattle.model.specs.Rounds.{earliest, R, rival, latest_start, round}
use Rattle.model.proofs.TimesInOrder.{earliest_is, round_is}
use Rattle.model.proofs.Contention.{contend_or_path}
use Rattle.model.proofs.Latencies.{lowest_some}
use Rattle.model.proofs.RoundRules.{highs, ends, held, ex_short}
use Rattle.schedules.specs.inside.Nets.{Net, Way, by_fin, by_ord, then_fin, then_ord, Done}
use Rattle.schedules.specs.inside.RoundInequalities.{Early, base, early_sum, early_last, other, Round}
use Rattle.schedules.proofs.BlockNet.{net, ready_done, done_ready, numbers_where_ex}

-- an EX by its instruction
pub ex_node : (v : ℕ) → is_ex v ≡ true → node EX (instruction v) ≡ v
ex_node v t = omega (arith, eqb-true (stage v) EX t)

-- two EX whose instructions are known to be apart
pub record Parted (known : Pairs) (u v : ℕ) : Type 0 where
  pub u_ex : is_ex u ≡ true
  pub v_ex : is_ex v ≡ true
  pub known_so : has known (instruction v) (instruction u) ≡ true

module _ (b : Block) (A : Ranges b) where
  -- the block's net, each latency from its lowest to its highest
  abbrev pub G : Net
  G = net b A (lowest b) (lowest_some b A)

  -- THE EARLIEST TIMES ARE THE LEAST THAT THE EDGES ALLOW
  pub earliest_early : Early G (start (earliest b))
  earliest_early =
      record {
        least = λ v x l f o.
            omega (arith, earliest_is b A v l, done_ready b A (lowest b) (lowest_some b A) (lowest b) (earliest b) v x (record { fin = f; ord = o }));
      }

  -- ---- paths of the model are paths of the net
  edge_way : (u v : ℕ) → Edge b u v → In u (finish_into b v) ⊎ In u (order_into b v)
  unfolding edges_into
  edge_way u v i = in_split u (finish_into b v) (order_into b v) i.from

  pub path_way : (u v : ℕ) → Path b u v → Way G u v
  path_way u v (edge i) = ⊎_elim by_fin by_ord (edge_way u v i)
  path_way u v (on {x = x} p i) = ⊎_elim (then_fin (path_way u x p)) (then_ord (path_way u x p)) (edge_way x v i)

-- ---- one round, with these pairs known to be apart
module _ (b : Block) (known : Pairs) where
  abbrev pub rivals : ℕ → ℕ → Bool
  rivals = rival (contending b) known

  -- u may delay v: its instruction is a contender of v's that is not known to be apart from it
  abbrev pub delays : ℕ → ℕ → Bool
  delays v u = is_ex u && rivals (instruction v) (instruction u)

  abbrev pub late : List ℕ
  late = round b (contending b) known

  module _ (A : Ranges b) where
    -- ---- every two EX of one kind may delay each other, are joined by a path, or are apart
    cover : (v u : ℕ) → v < nodes b → u < nodes b → is_ex v ≡ true → is_ex u ≡ true
        → (entry b (instruction u)).kind ≡ (entry b (instruction v)).kind → other u v ≡ true
        → (delays v u ≡ true) ⊎ (Way (G b A) u v ⊎ (Way (G b A) v u ⊎ Parted known u v))
    unfolding rival
    cover v u lv lu tv tu kinds two =
        by_contention (contend_or_path b A i j (omega arith) (omega arith) differ (sym kinds))
      where
        i : ℕ
        i = instruction v

        j : ℕ
        j = instruction u

        differ : i ≡ j → ⊥
        differ e = eqb-false u v (not-true (eqb u v) two) (sym (ex_node u tu) ∙ rw (sym e) (ex_node v tv))

        by_contention : (has (contending b) i j ≡ true) ⊎ (Path b (node EX i) (node EX j) ⊎ Path b (node EX j) (node EX i))
            → (delays v u ≡ true) ⊎ (Way (G b A) u v ⊎ (Way (G b A) v u ⊎ Parted known u v))
        by_contention (inl c) =
            by_test (has known i j)
            (λ t. inr (inr (inr (record { u_ex = tu; v_ex = tv; known_so = t }))))
            (λ f. inl (rw (tu, c, f) refl))
        by_contention (inr (inl p)) = inr (inr (inl (path_way b A v u (rw (← ex_node v tv, ← ex_node u tu) p))))
        by_contention (inr (inr p)) = inr (inl (path_way b A u v (rw (← ex_node v tv, ← ex_node u tu) p)))

    -- ---- the rules at an EX
    module _ (v : ℕ) (l : v < nodes b) (t : is_ex v ≡ true) where
      abbrev i : ℕ
      i = instruction v

      abbrev pub before : List ℕ
      before = numbers_where 0 i (rivals i)

      abbrev pub after : List ℕ
      after = numbers_where (i + 1) b.n (rivals i)

      pub at_ex : start late v
          ≡ min (R b late v + held b after + sum (highs b before)) (max (R b late v + held b after) (largest (ends b late before)))
      unfolding latest_start
      at_ex = round_is b A (contending b) known v l ∙ rw t (ex_short b A rivals late i (R b late v))

      -- the nodes that may delay v are the EX of i's rivals
      only_ex : (u : ℕ) → is_ex u ≡ false → delays v u ≡ false
      only_ex u f = rw f refl

      at_instruction : (j : ℕ) → delays v (node EX j) ≡ rivals i j
      at_instruction j =
          let e : instruction (node EX j) ≡ j = omega arith in
          let x : is_ex (node EX j) ≡ true = eq-eqb (stage (node EX j)) EX (omega arith) in
          rw (x, e) refl

      none_between : (u : ℕ) → (stage u ≡ EX → ⊥) → delays v u ≡ false
      none_between u h = only_ex u (ne_eqb (stage u) EX h)

      earlier_nodes : numbers_where 0 v (delays v) ≡ map (node EX) before
      earlier_nodes =
          numbers_where_back (delays v) 0 (5 * i) v (omega arith) (omega arith) (λ u m o. none_between u (λ q. omega (arith, ex_node v t)))
          ∙ numbers_where_ex (delays v) only_ex 0 i (omega arith)
          ∙ ap (map (node EX)) (numbers_where_ext (λ j. delays v (node EX j)) (rivals i) 0 i (λ j m o. at_instruction j))

      later_nodes : numbers_where (v + 1) (nodes b) (delays v) ≡ map (node EX) after
      later_nodes =
          numbers_where_front (delays v) (v + 1) (5 * (i + 1)) (nodes b) (omega (arith, ex_node v t)) (omega arith)
          (λ u m o. none_between u (λ q. omega (arith, ex_node v t)))
          ∙ numbers_where_ex (delays v) only_ex (i + 1) b.n (omega arith)
          ∙ ap (map (node EX)) (numbers_where_ext (λ j. delays v (node EX j)) (rivals i) (i + 1) b.n (λ j m o. at_instruction j))

      -- so a schedule's rules are the model's
      abbrev B : ℕ
      B = base (G b A) delays (λ u. R b late u) v

      base_is : B ≡ R b late v + held b after
      unfolding base
      base_is = rw (later_nodes, map-map (highest b) (node EX) after) (omega arith)

      sum_is : early_sum (G b A) delays v ≡ sum (highs b before)
      unfolding early_sum
      sum_is = rw (earlier_nodes, map-map (highest b) (node EX) before) refl

      last_is : early_last delays (λ u. start late u + highest b u) v ≡ largest (ends b late before)
      unfolding early_last finish
      last_is = rw (earlier_nodes, map-map (λ u. start late u + highest b u) (node EX) before) refl

      -- so the latest start allows for both bounds. The sum is not divided among the units, and undivided it is no less
      ex_late : min (B + early_sum (G b A) delays v / (G b A).units ((G b A).kind v)) (max B (early_last delays (λ u. start late u + highest b u) v))
          ≤ start late v
      ex_late = omega (arith, at_ex, base_is, sum_is, last_is, div-le_self (early_sum (G b A) delays v) ((G b A).units ((G b A).kind v)))

    pub off_ex : (v : ℕ) → v < nodes b → is_ex v ≡ false → start late v ≡ R b late v
    unfolding latest_start
    off_ex v l f = round_is b A (contending b) known v l ∙ (rw f refl)

    ready_first : (v : ℕ) → v < nodes b → R b late v ≤ start late v
    ready_first v l = by_test (is_ex v) (λ t. omega (arith, at_ex v l t)) (λ f. omega (arith, off_ex v l f))

    done : (v : ℕ) → Done (G b A) (highest b) (start late) v (R b late v)
    unfolding R
    done v = ready_done b A (lowest b) (lowest_some b A) (highest b) late v (ready b (highest b) late v) (omega arith)

    -- A ROUND OF THE MODEL IS A ROUND
    pub model_round : Round (G b A) (start (earliest b)) (Parted known) delays delays (λ v. R b late v) (start late) (λ v. start late v + highest b v)
    model_round =
        record {
          cover = cover;
          later = λ v u lv lu d o e. d;
          r_fin = λ u v l i. (done v).fin u i;
          r_ord = λ u v l i. (done v).ord u i;
          ls_base = ready_first;
          ls_ex = λ v l x m. ex_late v l x;
          lf = λ v l. omega arith;
        }
