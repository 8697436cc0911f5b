-- The edges of an accepted block: each leads up in node order, and each that leaves an EX is a finish edge. Assumes nothing.
use Prim.Native.Nat.{ℕ, zero, suc, ◌+◌, ◌-◌, ◌*◌, ◌/◌, ◌%◌, ◌≤◌, ◌<◌}
use mathlib.Core.Path.{◌≡◌, refl, subst}
use mathlib.Core.Bool.{Bool, true, false, ◌&&◌}
use mathlib.Core.List.{List, [], ◌∷◌, map}
use mathlib.Core.Logic.{◌⊎◌, inl, inr}
use native.Mathlib.Omega.{arith}
use lib.Dec.{leb, eqb}
use borrow.Author.Tests.{leb-true, le-leb, eqb-true, eq-eqb}
use Rattle.lists.specs.Lists.{In, Every, pick}
use Rattle.lists.proofs.Bools.{and_left, and_right}
use Rattle.lists.proofs.Members.{in_split, in_left, in_right, in_map, map_in, ◌▸◌, every}
use Rattle.record.specs.declared.Block.{Block}
use Rattle.record.proofs.AcceptedRanges.{Ranges}
use Rattle.model.specs.Nodes.{EX, WB, node, stage, instruction, is_ex, entry, Edges, edges, finish_edges, last_writer, source, sources, order_edges, into, finish_into, order_into}
use Rattle.model.specs.Paths.{edges_into}

-- an element of a list that a test lets through
in_pick : {A : Type 0} (x : A) (t : Bool) (xs ys : List A) → In x (pick t xs ys) → ((t ≡ true) × In x xs) ⊎ ((t ≡ false) × In x ys)
in_pick x true xs ys h = inl (refl, h)
in_pick x false xs ys h = inr (refl, h)

-- ---- edges by stage

-- one of the edges es leads from u to v
pub record Leads (es : List Edges) (u v : ℕ) : Type 0 where
  pub by : Edges
  pub listed : In by es
  pub to : by.to ≡ stage v
  pub far : by.far ≤ instruction v
  pub from : u ≡ node by.from (instruction v - by.far)

leads_more : (e : Edges) (es : List Edges) (u v : ℕ) → Leads es u v → Leads (e ∷ es) u v
leads_more e es u v l = record { by = l.by; listed = inr l.listed; to = l.to; far = l.far; from = l.from }

pub into_leads : (es : List Edges) (u v : ℕ) → In u (into es v) → Leads es u v
unfolding into
into_leads [] u v h = absurd h
into_leads (e ∷ es) u v h =
    by_row
    (in_pick u (eqb e.to (stage v) && leb e.far (instruction v)) (node e.from (instruction v - e.far) ∷ into es v) (into es v) h)
    (into_leads es u v)
  where
    T : Type 0
    T = ((eqb e.to (stage v) && leb e.far (instruction v)) ≡ true) × In u (node e.from (instruction v - e.far) ∷ into es v)

    by_row : T ⊎ (((eqb e.to (stage v) && leb e.far (instruction v)) ≡ false) × In u (into es v)) → (In u (into es v) → Leads es u v) → Leads (e ∷ es) u v
    by_row (inl (t, inl q)) ih =
        record {
          by = e;
          listed = inl refl;
          to = eqb-true e.to (stage v) (and_left _ (leb e.far (instruction v)) t);
          far = leb-true e.far (instruction v) (and_right (eqb e.to (stage v)) _ t);
          from = q;
        }
    by_row (inl (t, inr q)) ih = leads_more e es u v (ih q)
    by_row (inr (t, q)) ih = leads_more e es u v (ih q)

pub leads_into : (es : List Edges) (e : Edges) (v : ℕ) → In e es → e.to ≡ stage v → e.far ≤ instruction v
    → In (node e.from (instruction v - e.far)) (into es v)
unfolding into
leads_into [] e v h to far = absurd h
leads_into (x ∷ es) e v (inl q) to far =
    subst
    (λ (y : Edges).
    In (node e.from (instruction v - e.far))
    (pick (eqb y.to (stage v) && leb y.far (instruction v)) (node y.from (instruction v - y.far) ∷ into es v) (into es v))) q
    (rw (eq-eqb e.to (stage v) to, le-leb e.far (instruction v) far) (inl refl))
leads_into (x ∷ es) e v (inr h) to far = in_row (eqb x.to (stage v) && leb x.far (instruction v)) (leads_into es e v h to far)
  where
    in_row : (t : Bool) → In (node e.from (instruction v - e.far)) (into es v)
        → In (node e.from (instruction v - e.far)) (pick t (node x.from (instruction v - x.far) ∷ into es v) (into es v))
    in_row true i = inr i
    in_row false i = i

-- the same from an instruction to the one that is `far` after it
pub edge_on : (es : List Edges) (g h k i : ℕ) → h < 5 → In (edges g h k) es → In (node g i) (into es (node h (i + k)))
edge_on es g h k i l m =
    let s : h ≡ (5 * (i + k) + h) % 5 = omega arith in
    let q : (5 * (i + k) + h) / 5 - k ≡ i = omega arith in
    subst (λ (x : ℕ). In (node g x) (into es (node h (i + k)))) q (leads_into es (edges g h k) (node h (i + k)) m s (omega arith))

-- ---- edges by register
pub writer_in : (b : Block) (r j i : ℕ) → In i (last_writer b r j) → (i < j) × ((entry b i).writes ≡ r)
unfolding last_writer
writer_in b r zero i h = absurd h
writer_in b r (suc j) i h = by_writer (in_pick i (eqb (entry b j).writes r) (j ∷ []) (last_writer b r j) h) (writer_in b r j i)
  where
    by_writer : ((eqb (entry b j).writes r ≡ true) × In i (j ∷ [])) ⊎ ((eqb (entry b j).writes r ≡ false) × In i (last_writer b r j))
        → (In i (last_writer b r j) → (i < j) × ((entry b i).writes ≡ r)) → (i < suc j) × ((entry b i).writes ≡ r)
    by_writer (inl (t, inl q)) ih = (omega arith, rw q (eqb-true (entry b j).writes r t))
    by_writer (inl (t, inr q)) ih = absurd q
    by_writer (inr (t, q)) ih = let x = ih q in (omega (arith, x.0), x.1)

picked : {A : Type 0} (x : A) (t : Bool) (xs : List A) → In x (pick t [] xs) → In x xs
picked x true xs h = absurd h
picked x false xs h = h

source_before : (b : Block) (r j i : ℕ) → In i (source b r j) → i < j
unfolding source
source_before b r j i h = (writer_in b r _ i (picked i (eqb r 255) _ h)).0

-- what j reads was written before it
pub sources_before : (b : Block) (j i : ℕ) → In i (sources b j) → i < j
unfolding sources
sources_before b j i h = by_register (in_split i (source b (entry b j).reads1 j) (source b (entry b j).reads2 j) h)
  where
    by_register : In i (source b (entry b j).reads1 j) ⊎ In i (source b (entry b j).reads2 j) → i < j
    by_register (inl k) = source_before b (entry b j).reads1 j i k
    by_register (inr k) = source_before b (entry b j).reads2 j i k

-- ---- all edges

-- a finish edge is one by stage, or leads from the WB of a source to an EX
pub record Sourced (b : Block) (u v : ℕ) : Type 0 where
  pub ex : stage v ≡ EX
  pub by : ℕ
  pub listed : In by (sources b (instruction v))
  pub from : u ≡ node WB by

pub finish_cases : (b : Block) (u v : ℕ) → In u (finish_into b v) → Leads (finish_edges b) u v ⊎ Sourced b u v
unfolding finish_into
finish_cases b u v h = by_sort (in_split u (into (finish_edges b) v) (pick (is_ex v) (map (node WB) (sources b (instruction v))) []) h)
  where
    more : ((is_ex v ≡ true) × In u (map (node WB) (sources b (instruction v)))) ⊎ ((is_ex v ≡ false) × In u []) → Sourced b u v
    more (inl (t, q)) =
        let x = in_map (node WB) u (sources b (instruction v)) q in
        record { ex = eqb-true (stage v) EX t; by = x.0; listed = x.1; from = x.2 }
    more (inr (t, q)) = absurd q

    by_sort : In u (into (finish_edges b) v) ⊎ In u (pick (is_ex v) (map (node WB) (sources b (instruction v))) []) → Leads (finish_edges b) u v ⊎ Sourced b u v
    by_sort (inl k) = inl (into_leads (finish_edges b) u v k)
    by_sort (inr k) = inr (more (in_pick u (is_ex v) (map (node WB) (sources b (instruction v))) [] k))

pub finish_on : (b : Block) (g h k i : ℕ) → h < 5 → In (edges g h k) (finish_edges b) → In (node g i) (finish_into b (node h (i + k)))
unfolding finish_into
finish_on b g h k i l m = in_left (node g i) (into (finish_edges b) (node h (i + k))) _ (edge_on (finish_edges b) g h k i l m)

pub source_on : (b : Block) (i j : ℕ) → In i (sources b j) → In (node WB i) (finish_into b (node EX j))
unfolding finish_into
source_on b i j m =
    let s : (5 * j + 2) % 5 ≡ 2 = omega arith in
    let q : (5 * j + 2) / 5 ≡ j = omega arith in
    in_right (node WB i) (into (finish_edges b) (node EX j)) _ (rw (s, q) (map_in (node WB) i (sources b j) m))

-- an edge by stage leads up in node order
abbrev Up : Edges → Type 0
Up e = e.from < e.to + 5 * e.far

leads_below : (es : List Edges) → Every Up es → (u v : ℕ) → Leads es u v → u < v
leads_below es up u v l = let a = every Up es up l.by l.listed in omega (arith, l.to, l.far, l.from)

-- EVERY PREDECESSOR OF A NODE IS BELOW IT IN NODE ORDER
module _ (b : Block) (A : Ranges b) where
  finish_up : Every Up (finish_edges b)
  unfolding finish_edges
  finish_up =
      omega arith ▸ omega arith ▸ omega arith ▸ omega arith ▸ omega (arith, A.q.0) ▸ omega (arith, A.w.0)
      ▸ omega (arith, A.f.0) ▸ omega (arith, A.d.0) ▸ omega (arith, A.c.0) ▸ tt

  order_up : Every Up (order_edges b)
  unfolding order_edges
  order_up = omega arith ▸ omega arith ▸ omega arith ▸ tt

  pub finish_below : (u v : ℕ) → In u (finish_into b v) → u < v
  finish_below u v h = goes_up (finish_cases b u v h)
    where
      goes_up : Leads (finish_edges b) u v ⊎ Sourced b u v → u < v
      goes_up (inl l) = leads_below (finish_edges b) finish_up u v l
      goes_up (inr s) = omega (arith, s.ex, s.from, sources_before b (instruction v) s.by s.listed)

  pub order_below : (u v : ℕ) → In u (order_into b v) → u < v
  unfolding order_into
  order_below u v h = leads_below (order_edges b) order_up u v (into_leads (order_edges b) u v h)

  pub edges_below : (u v : ℕ) → In u (edges_into b v) → u < v
  unfolding edges_into
  edges_below u v h = edge_up (in_split u (finish_into b v) (order_into b v) h)
    where
      edge_up : In u (finish_into b v) ⊎ In u (order_into b v) → u < v
      edge_up (inl k) = finish_below u v k
      edge_up (inr k) = order_below u v k

-- EVERY EDGE THAT LEAVES AN EX NODE IS A FINISH EDGE
abbrev OffEX : Edges → Type 0
OffEX e = (e.from < 5) × (e.from ≡ EX → ⊥)

pub order_off_ex : (b : Block) (u v : ℕ) → In u (order_into b v) → is_ex u ≡ true → ⊥
unfolding order_into order_edges
order_off_ex b u v h t =
    let off : Every OffEX (order_edges b) = (omega arith, λ e. omega arith) ▸ (omega arith, λ e. omega arith) ▸ (omega arith, λ e. omega arith) ▸ tt in
    let l = into_leads (order_edges b) u v h in
    let a = every OffEX (order_edges b) off l.by l.listed in
    a.1 (omega (arith, a.0, l.from, eqb-true (stage u) EX t))

pub ex_leaves_by_finish : (b : Block) (i v : ℕ) → In (node EX i) (edges_into b v) → In (node EX i) (finish_into b v)
unfolding edges_into
ex_leaves_by_finish b i v h = finish_only (in_split (node EX i) (finish_into b v) (order_into b v) h)
  where
    finish_only : In (node EX i) (finish_into b v) ⊎ In (node EX i) (order_into b v) → In (node EX i) (finish_into b v)
    finish_only (inl k) = k
    finish_only (inr k) = let s : (5 * i + 2) % 5 ≡ 2 = omega arith in absurd (order_off_ex b (node EX i) v k (eq-eqb ((5 * i + 2) % 5) 2 s))
