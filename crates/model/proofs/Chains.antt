-- A path leads from EX(i) to EX(j) exactly if j stands W or more after i, or a chain of steps leads there. So contenders stand
-- less than W apart. Assumes nothing.
--
-- Why: from EX(i) a path goes to WB(i) and CM(i). From CM(k), k not below i, it comes to ID(k + W) and the ID and IF after
-- that, so to no IF or ID of an instruction below i + W. Below i + W an EX is then entered by a step alone, from the WB of a
-- writer, and that WB from its own EX: such a path is a chain. Back, a chain is a path, and from CM(i) the edge to ID(i + W)
-- and the order edges ID(k) to ID(k + 1) come to every ID from i + W on.
use Prim.Native.Nat.{ℕ, zero, suc, ◌+◌, ◌-◌, ◌*◌, ◌/◌, ◌%◌, ◌≤◌, ◌<◌}
use mathlib.Core.Path.{◌≡◌, refl, sym, ap, ◌∙◌, subst, subst₂}
use mathlib.Core.Bool.{Bool, true, false, not, ◌&&◌, ◌||◌, and-true}
use mathlib.Core.List.{List, []}
use mathlib.Core.Logic.{◌⊎◌, inl, inr}
use native.Mathlib.Omega.{arith}
use lib.ListN.{get_or}
use lib.Dec.{leb, eqb}
use borrow.Author.Tests.{eqb-true, eq-eqb, ne_eqb, le-leb, leb-true, leb-false}
use Rattle.lists.specs.Lists.{In, Every, tab}
use Rattle.lists.specs.Sums.{any}
use Rattle.lists.proofs.Bools.{by_test, or_cases, or_first, or_second, same_test}
use Rattle.lists.proofs.Members.{in_split, ◌▸◌, every, any_find, any_in, any_ext}
use Rattle.lists.proofs.TableByIndex.{length_tab, get_or_tab, is_tab}
use Rattle.lists.proofs.InOrder.{in_order_keeps}
use Rattle.record.specs.declared.Block.{Block}
use Rattle.record.proofs.AcceptedRanges.{Ranges}
use Rattle.model.specs.Nodes.{ID, EX, WB, CM, node, stage, instruction, entry, Edges, finish_edges, order_edges, finish_into, order_into}
use Rattle.model.specs.Paths.{edges_into, Edge, Path, Pairs, has, paths, contend, contending}
use Rattle.model.specs.Paths.Path.{edge, on}
use Rattle.model.specs.inside.RegisterChains.{links, chains}
use Rattle.model.proofs.Predecessors.{Leads, into_leads, Sourced, finish_cases, finish_on, edge_on}
use Rattle.model.proofs.Links.{path_then, finish_edge, order_edge, within, ex_wb, links_before, link_path, source_link}
use Rattle.model.proofs.Contention.{path_up, paths_path, path_paths, contending_at, contending_contends}

-- a chain: a step from i to j, or one from an instruction to which a chain leads from i
pub data Chain (b : Block) : ℕ → ℕ → Type 0 where
  step : {i j : ℕ} → In i (links b j) → Chain b i j
  then_step : {i a j : ℕ} → Chain b i a → In a (links b j) → Chain b i j

pub chain_up : (b : Block) (i j : ℕ) → Chain b i j → i < j
chain_up b i j (step h) = links_before b i j h
chain_up b i j (then_step {a = a} c h) = omega (arith, chain_up b i a c, links_before b a j h)

-- ---- what can be said of stage g of instruction a at the end of a path from EX(i)
abbrev Near : Block → ℕ → ℕ → Type 0
Near b i a = (i ≡ a) ⊎ (Chain b i a ⊎ (i + b.w ≤ a))

abbrev Said : Block → ℕ → ℕ → ℕ → Type 0
Said b i zero a = i + b.w ≤ a
Said b i (suc zero) a = i + b.w ≤ a
Said b i (suc (suc zero)) a = Near b i a
Said b i (suc (suc (suc zero))) a = Near b i a
Said b i (suc (suc (suc (suc g)))) a = i ≤ a

near_up : (b : Block) (i a : ℕ) → Near b i a → i ≤ a
near_up b i a (inl e) = omega arith
near_up b i a (inr (inl c)) = omega (arith, chain_up b i a c)
near_up b i a (inr (inr h)) = omega arith

near_step : (b : Block) (i a j : ℕ) → Near b i a → In a (links b j) → Near b i j
near_step b i a j (inl e) h = inr (inl (step (subst (λ (x : ℕ). In x (links b j)) (sym e) h)))
near_step b i a j (inr (inl c)) h = inr (inl (then_step c h))
near_step b i a j (inr (inr k)) h = inr (inr (omega (arith, links_before b a j h)))

-- an edge by stage carries it on
abbrev Carries : Block → ℕ → Edges → Type 0
Carries b i e = (e.from < 5) × ((a : ℕ) → Said b i e.from a → Said b i e.to (a + e.far))

module _ (b : Block) (i : ℕ) where
  finish_carries : Every (Carries b i) (finish_edges b)
  unfolding finish_edges
  finish_carries =
      (omega arith, λ a h. omega arith)
      ▸ (omega arith, λ a h. inr (inr (omega arith)))
      ▸ (omega arith, λ a h. near_same a h)
      ▸ (omega arith, λ a h. omega (arith, near_up b i a h))
      ▸ (omega arith, λ a h. omega arith)
      ▸ (omega arith, λ a h. omega arith)
      ▸ (omega arith, λ a h. omega arith)
      ▸ (omega arith, λ a h. omega arith)
      ▸ (omega arith, λ a h. omega arith)
      ▸ tt
    where
      near_same : (a : ℕ) → Near b i a → Near b i (a + 0)
      near_same a h = let e : a ≡ a + 0 = omega arith in subst (λ (x : ℕ). Near b i x) e h

  order_carries : Every (Carries b i) (order_edges b)
  unfolding order_edges
  order_carries = (omega arith, λ a h. omega arith) ▸ (omega arith, λ a h. omega arith) ▸ (omega arith, λ a h. omega arith) ▸ tt

  leads_carries : (es : List Edges) → Every (Carries b i) es → (u v : ℕ) → Leads es u v
      → Said b i (stage u) (instruction u) → Said b i (stage v) (instruction v)
  leads_carries es all u v l h =
      let c = every (Carries b i) es all l.by l.listed in
      let s : stage u ≡ l.by.from = omega (arith, l.from, c.0) in
      let a : instruction u ≡ instruction v - l.by.far = omega (arith, l.from, c.0) in
      let back : instruction v - l.by.far + l.by.far ≡ instruction v = omega (arith, l.far) in
      subst₂ (λ (g x : ℕ). Said b i g x) l.to back (c.1 (instruction v - l.by.far) (subst₂ (λ (g x : ℕ). Said b i g x) s a h))

  source_carries : (u v : ℕ) → Sourced b u v → Said b i (stage u) (instruction u) → Said b i (stage v) (instruction v)
  source_carries u v s h =
      let g : stage u ≡ WB = omega (arith, s.from) in
      let a : instruction u ≡ s.by = omega (arith, s.from) in
      let near : Near b i s.by = subst₂ (λ (x y : ℕ). Said b i x y) g a h in
      subst (λ (x : ℕ). Said b i x (instruction v)) (sym s.ex)
      (near_step b i s.by (instruction v) near (source_link b s.by (instruction v) s.listed))

  edge_carries : (u v : ℕ) → In u (edges_into b v) → Said b i (stage u) (instruction u) → Said b i (stage v) (instruction v)
  unfolding edges_into order_into
  edge_carries u v e h = by_edge (in_split u (finish_into b v) (order_into b v) e)
    where
      by_finish : Leads (finish_edges b) u v ⊎ Sourced b u v → Said b i (stage v) (instruction v)
      by_finish (inl l) = leads_carries (finish_edges b) finish_carries u v l h
      by_finish (inr s) = source_carries u v s h

      by_edge : In u (finish_into b v) ⊎ In u (order_into b v) → Said b i (stage v) (instruction v)
      by_edge (inl k) = by_finish (finish_cases b u v k)
      by_edge (inr k) = leads_carries (order_edges b) order_carries u v (into_leads (order_edges b) u v k) h

  ex_said : (u : ℕ) → u ≡ node EX i → Said b i (stage u) (instruction u)
  ex_said u e =
      let g : EX ≡ u % 5 = omega arith in
      let a : i ≡ u / 5 = omega arith in
      subst₂ (λ (x y : ℕ). Said b i x y) g a (inl refl)

  path_carries : (u v : ℕ) → u ≡ node EX i → Path b u v → Said b i (stage v) (instruction v)
  path_carries u v e (edge h) = edge_carries u v h.from (ex_said u e)
  path_carries u v e (on {x = x} p h) = edge_carries x v h.from (path_carries u x e p)

-- ---- EX(i) REACHES EX(j) EXACTLY IF j IS W OR MORE AFTER i OR A CHAIN LEADS THERE
module _ (b : Block) (i j : ℕ) where
  pub path_chain : i < j → Path b (node EX i) (node EX j) → Chain b i j ⊎ (i + b.w ≤ j)
  path_chain l p =
      let g : (5 * j + 2) % 5 ≡ 2 = omega arith in
      let a : (5 * j + 2) / 5 ≡ j = omega arith in
      not_itself (subst₂ (λ (x y : ℕ). Said b i x y) g a (path_carries b i (node EX i) (node EX j) refl p))
    where
      not_itself : Near b i j → Chain b i j ⊎ (i + b.w ≤ j)
      not_itself (inl e) = absurd (omega arith)
      not_itself (inr x) = x

-- the edges that the way back takes
module _ (b : Block) where
  id_ex : (i : ℕ) → i < b.n → Edge b (node ID i) (node EX i)
  unfolding finish_edges
  id_ex i k = within b ID EX i (omega arith) k (inr (inl refl))

  wb_cm : (i : ℕ) → i < b.n → Edge b (node WB i) (node CM i)
  unfolding finish_edges
  wb_cm i k = within b WB CM i (omega arith) k (inr (inr (inr (inl refl))))

  cm_id : (i : ℕ) → i + b.w < b.n → Edge b (node CM i) (node ID (i + b.w))
  unfolding finish_edges
  cm_id i k =
      finish_edge b (node CM i) (node ID (i + b.w)) (omega arith)
      (finish_on b CM ID b.w i (omega arith) (inr (inr (inr (inr (inr (inl refl)))))))

  id_id : (i : ℕ) → i + 1 < b.n → Edge b (node ID i) (node ID (i + 1))
  unfolding order_into order_edges
  id_id i k =
      order_edge b (node ID i) (node ID (i + 1)) (omega arith) (edge_on (order_edges b) ID ID 1 i (omega arith) (inr (inl refl)))

  pub chain_path : (i j : ℕ) → j < b.n → Chain b i j → Path b (node EX i) (node EX j)
  chain_path i j k (step h) = link_path b i j k h
  chain_path i j k (then_step {a = a} c h) =
      path_then b (node EX i) (node EX a) (node EX j) (chain_path i a (omega (arith, links_before b a j h)) c) (link_path b a j k h)

  to_id : (k i : ℕ) → i + b.w + k < b.n → Path b (node EX i) (node ID (i + b.w + k))
  to_id zero i l =
      let e : i + b.w ≡ i + b.w + 0 = omega arith in
      subst (λ (x : ℕ). Path b (node EX i) (node ID x)) e
      (on (on (edge (ex_wb b i (omega arith))) (wb_cm i (omega arith))) (cm_id i (omega arith)))
  to_id (suc k) i l =
      let e : i + b.w + k + 1 ≡ i + b.w + suc k = omega arith in
      subst (λ (x : ℕ). Path b (node EX i) (node ID x)) e (on (to_id k i (omega arith)) (id_id (i + b.w + k) (omega arith)))

  pub far_path : (i j : ℕ) → j < b.n → i + b.w ≤ j → Path b (node EX i) (node EX j)
  far_path i j k h =
      let e : i + b.w + (j - (i + b.w)) ≡ j = omega arith in
      on (subst (λ (x : ℕ). Path b (node EX i) (node ID x)) e (to_id (j - (i + b.w)) i (omega arith))) (id_ex j k)

-- ---- the chains as a table
module _ (b : Block) where
  -- a is i, or a chain leads from i to it
  abbrev from_i : ℕ → ℕ → Bool
  from_i i a = eqb a i || has (chains b) a i

  rows_look : (s t : Pairs) (j : ℕ) → ((u : ℕ) → u < j → get_or s u [] ≡ get_or t u [])
      → tab b.n (λ i. any (λ a. eqb a i || has s a i) (links b j))
      ≡ tab b.n (λ i. any (λ a. eqb a i || has t a i) (links b j))
  rows_look s t j same =
      is_tab b.n _ false _ (length_tab b.n _)
      (λ i l. get_or_tab b.n _ i false l
      ∙ any_ext (λ a. eqb a i || has s a i) (λ a. eqb a i || has t a i) (links b j)
      (λ a h. ap (λ (r : List Bool). eqb a i || get_or r i false) (same a (links_before b a j h))))

  pub chains_is : (i j : ℕ) → i < b.n → j < b.n → has (chains b) j i ≡ any (from_i i) (links b j)
  unfolding chains
  chains_is i j hi hj =
      ap (λ (r : List Bool). get_or r i false)
      (in_order_keeps (λ before k. tab b.n (λ x. any (λ a. eqb a x || has before a x) (links b k))) [] rows_look b.n j hj)
      ∙ get_or_tab b.n _ i false hi

  pub chain_chains : (i j : ℕ) → i < b.n → j < b.n → Chain b i j → has (chains b) j i ≡ true
  chain_chains i j hi hj (step h) =
      chains_is i j hi hj ∙ any_in (from_i i) (links b j) i h (or_first (eqb i i) _ (eq-eqb i i refl))
  chain_chains i j hi hj (then_step {a = a} c h) =
      chains_is i j hi hj
      ∙ any_in (from_i i) (links b j) a h (or_second (eqb a i) _ (chain_chains i a hi (omega (arith, links_before b a j h)) c))

  chains_below : (k i j : ℕ) → j < k → i < b.n → j < b.n → has (chains b) j i ≡ true → Chain b i j
  chains_below zero i j l hi hj t = absurd (omega arith)
  chains_below (suc k) i j l hi hj t =
      let r = any_find (from_i i) (links b j) (sym (chains_is i j hi hj) ∙ t) in
      by_link r.0 r.1 (or_cases (eqb r.0 i) (has (chains b) r.0 i) r.2)
      (λ a o. chains_below k i a (omega arith) hi (omega arith))
    where
      by_link : (a : ℕ) → In a (links b j) → (eqb a i ≡ true) ⊎ (has (chains b) a i ≡ true)
          → ((x : ℕ) → x < j → has (chains b) x i ≡ true → Chain b i x) → Chain b i j
      by_link a h (inl e) ih = step (subst (λ (x : ℕ). In x (links b j)) (eqb-true a i e) h)
      by_link a h (inr e) ih = then_step (ih a (links_before b a j h) e) h

  pub chains_chain : (i j : ℕ) → i < b.n → j < b.n → has (chains b) j i ≡ true → Chain b i j
  chains_chain i j hi hj t = chains_below (suc j) i j (omega arith) hi hj t

-- ---- THE SAME AS ONE TEST, AND WHAT IT SAYS OF CONTENDERS
module _ (b : Block) (A : Ranges b) (i j : ℕ) (l : i < j) (h : j < b.n) where
  far_or_chained : Chain b i j ⊎ (i + b.w ≤ j) → (leb (i + b.w) j || has (chains b) j i) ≡ true
  far_or_chained (inl c) = or_second (leb (i + b.w) j) _ (chain_chains b i j (omega arith) h c)
  far_or_chained (inr f) = or_first (leb (i + b.w) j) _ (le-leb (i + b.w) j f)

  to_path : (leb (i + b.w) j ≡ true) ⊎ (has (chains b) j i ≡ true) → Path b (node EX i) (node EX j)
  to_path (inl f) = far_path b i j h (leb-true (i + b.w) j f)
  to_path (inr c) = chain_path b i j h (chains_chain b i j (omega arith) h c)

  pub paths_chains : has (paths b) i j ≡ (leb (i + b.w) j || has (chains b) j i)
  paths_chains =
      same_test (has (paths b) i j) (leb (i + b.w) j || has (chains b) j i)
      (λ t. far_or_chained (path_chain b i j l (paths_path b A i j (omega arith) h t)))
      (λ t. path_paths b A i j (omega arith) h (to_path (or_cases (leb (i + b.w) j) (has (chains b) j i) t)))

  -- CONTENDERS ARE LESS THAN W APART
  pub contend_near : has (contending b) i j ≡ true → j < i + b.w
  contend_near t =
      by_test (leb (i + b.w) j)
      (λ f. absurd ((contending_contends b A i j t).no_path (far_path b i j h (leb-true (i + b.w) j f))))
      (λ f. leb-false (i + b.w) j f)

  none_back : has (paths b) j i ≡ false
  none_back =
      by_test (has (paths b) j i)
      (λ t. absurd (let o = path_up b A (node EX j) (node EX i) (paths_path b A j i h (omega arith) t) in omega arith))
      (λ t. t)

  -- the contending pairs, from the chains
  pub contending_chains : has (contending b) i j ≡ (eqb (entry b i).kind (entry b j).kind && not (leb (i + b.w) j || has (chains b) j i))
  unfolding contend
  contending_chains =
      contending_at b i j (omega arith) h
      ∙ rw (ne_eqb i j (λ e. omega arith), none_back, paths_chains) (and-true _)
