-- The table of the chains of registers, row by row: one step of the table, and the contenders that it tells.
-- Assumes nothing.
use Prim.Native.Nat.{ℕ, ◌+◌, ◌-◌, ◌<◌, ◌≤◌, suc, zero}
use mathlib.Core.Path.{◌∙◌, ◌≡◌, ap, refl, sym}
use mathlib.Core.Bool.{◌&&◌, ◌||◌, Bool, and-false, false, not, or_comm, or-false, or-true, true}
use mathlib.Core.List.{◌∷◌, List, []}
use mathlib.Core.Logic.{◌⊎◌, inl, inr}
use native.Mathlib.Omega.{arith}
use lib.Dec.{eqb, leb}
use borrow.Author.Tests.{eq-eqb, eqb-false, eqb-true, le-leb, lt-leb, ne_eqb}
use Rattle.lists.specs.Lists.{numbers_where}
use Rattle.lists.specs.Sums.{any}
use Rattle.lists.proofs.Bools.{by_test}
use Rattle.lists.proofs.NumbersWhere.{numbers_where_ext, numbers_where_front}
use Rattle.lists.proofs.Sums.{any_append}
use Rattle.record.specs.declared.Block.{Block}
use Rattle.record.proofs.AcceptedRanges.{Ranges, ranges}
use Rattle.model.specs.Nodes.{entry, last_writer, source, sources}
use Rattle.model.specs.Paths.{contending, has}
use Rattle.model.specs.inside.RegisterChains.{chains}
use Rattle.model.proofs.Chains.{chains_is, contending_chains}
use Rattle.model.proofs.Contention.{contending_even}
use Rattle.unpacked.specs.declared.Instruction.{Instruction}
use Rattle.unpacked.specs.declared.Shape.{Shape}
use Rattle.unpacked.specs.inside.UnpackedBlock.{Unpacked, code, kind_of}
use Rattle.pairs.specs.inside.PairRows.{ChainRows, chain_at}
use Rattle.pairs.specs.inside.RowSteps.{nearby}

-- ---- one step of the table
or_four : (a b c d : Bool) → (a || b || (c || d)) ≡ (a || c || b || d)
or_four true b c d = refl
or_four false true c d = sym (ap (λ (x : Bool). x || d) (or-true c))
or_four false false c d = ap (λ (x : Bool). x || d) (sym (or-false c))

eqb_next : (x i : ℕ) → eqb (i + 1) (x + 1) ≡ eqb x i
eqb_next x i =
    by_test (eqb x i)
    (λ t. eq-eqb (i + 1) (x + 1) (omega (arith, eqb-true x i t)) ∙ sym t)
    (λ t. ne_eqb (i + 1) (x + 1) (λ e. eqb-false x i t (omega arith)) ∙ sym t)

-- at most one number
abbrev One : List ℕ → Type 0
One xs = (xs ≡ []) ⊎ ((a : ℕ) × (xs ≡ a ∷ []))

module _ (b : Block) where
  writer_one : (r j : ℕ) → One (last_writer b r j)
  unfolding last_writer
  writer_one r zero = inl refl
  writer_one r (suc j) = by_test (eqb (entry b j).writes r) (λ t. rw t (inr (j, refl))) (λ t. rw t (writer_one r j))

  source_one : (r j : ℕ) → One (source b r j)
  unfolding source
  source_one r j = by_test (eqb r 255) (λ t. rw t (inl refl)) (λ t. rw t (writer_one r j))

  -- a source of j, from its row
  module _ (a : List (List Bool)) (j i : ℕ) (hi : i < 63) (none : (k : ℕ) → k < 64 → chain_at a 0 k ≡ false)
      (rows : (x : ℕ) → x < j → chain_at a (x + 1) (i + 1) ≡ has (chains b) x i) where
    from_one : (xs : List ℕ) → One xs → code xs ≤ j
        → any (λ x. eqb x i || has (chains b) x i) xs ≡ (chain_at a (code xs) (i + 1) || eqb (i + 1) (code xs))
    unfolding any code
    from_one xs (inl e) h =
        rw (e, none (i + 1) (omega arith), ne_eqb (i + 1) 0 (λ q. omega arith)) refl
    from_one xs (inr (x, e)) h =
        let l : x < j = omega (arith, ap code e) in
        rw (e, rows x l, eqb_next x i, or-false) (or_comm (eqb x i) (has (chains b) x i))

    pub chains_next : i < b.n → j < b.n → (x y : ℕ) → x ≤ j → y ≤ j
        → x ≡ code (source b (entry b j).reads1 j) → y ≡ code (source b (entry b j).reads2 j)
        → has (chains b) j i ≡ (chain_at a x (i + 1) || chain_at a y (i + 1) || eqb (i + 1) x || eqb (i + 1) y)
    unfolding sources
    chains_next li lj x y lx ly ex ey =
        let xs = source b (entry b j).reads1 j in
        let ys = source b (entry b j).reads2 j in
        let s = from_one xs (source_one (entry b j).reads1 j) (omega arith) in
        let t = from_one ys (source_one (entry b j).reads2 j) (omega arith) in
        chains_is b i j li lj
        ∙ any_append (λ z. eqb z i || has (chains b) z i) xs ys
        ∙ rw (s, t, ← ex, ← ey) (or_four (chain_at a x (i + 1)) (eqb (i + 1) x) (chain_at a y (i + 1)) (eqb (i + 1) y))

-- ---- the contenders before j, from the table
pub nearby_contending : (b : Block) (h : Shape) (u : List Instruction) (a : List (List Bool)) → Unpacked b h u → ChainRows b a
    → (j : ℕ) → j < b.n → nearby b.w u a j ≡ numbers_where 0 j (has (contending b) j)
unfolding nearby
nearby_contending b h u a U table j l =
    sym
    (numbers_where_front (has (contending b) j) 0 (j + 1 - b.w) j (omega arith) (omega (arith, A.w.0))
    (λ k g m.
    contending_row k (omega (arith, A.w.0))
    ∙ rw (le-leb (k + b.w) j (omega arith)) (and-false (eqb (entry b k).kind (entry b j).kind)))
    ∙ numbers_where_ext (has (contending b) j) _ (j + 1 - b.w) j
    (λ k g m. contending_row k m ∙ rw (lt-leb (k + b.w) j (omega arith), same k (omega arith), same j l, table.at k j (omega arith) l) refl))
  where
    A : Ranges b
    A = ranges b U.accepted

    same : (i : ℕ) → i < b.n → kind_of u i ≡ (entry b i).kind
    same = U.instructions.kind

    contending_row : (k : ℕ) → k < j → has (contending b) j k ≡ (eqb (entry b k).kind (entry b j).kind && not (leb (k + b.w) j || has (chains b) j k))
    contending_row k g = contending_even b j k l (omega arith) ∙ contending_chains b A k j g l
