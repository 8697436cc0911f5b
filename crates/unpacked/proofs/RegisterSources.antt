-- The sources of all registers, instruction by instruction, in a list by register. Assumes nothing.
use Prim.Native.Nat.{ℕ, zero, suc, ◌+◌, ◌≤◌, ◌<◌}
use mathlib.Core.Path.{◌≡◌, refl, sym, ◌∙◌}
use mathlib.Core.List.{List}
use native.Mathlib.Omega.{arith}
use native.Mathlib.Numerals.{add-one}
use lib.ListN.{length, set, replicate, length-set}
use lib.Seq.{get_or-set_same, get_or-set_other}
use lib.Dec.{eqb}
use borrow.Author.Tests.{eqb-true, eqb-false, eq-eqb, ne_eqb}
use Rattle.lists.proofs.Bools.{by_test}
use Rattle.record.specs.declared.Block.{Block}
use Rattle.model.specs.Nodes.{entry, last_writer, source}
use Rattle.unpacked.specs.inside.Sources.{Sources}
use Rattle.unpacked.specs.inside.UnpackedBlock.{code}
use Rattle.lists.proofs.Elements.{get_or_zeros}

module _ (b : Block) where
  -- ---- the code of a source
  pub source_none : (r : ℕ) → code (source b r 0) ≡ 0
  unfolding source last_writer code
  source_none r = by_test (eqb r 255) (λ t. rw t refl) (λ t. rw t refl)

  pub source_255 : (j : ℕ) → code (source b 255 j) ≡ 0
  unfolding source code
  source_255 j = refl

  pub source_written : (r j : ℕ) → (r ≡ 255 → ⊥) → (entry b j).writes ≡ r → code (source b r (j + 1)) ≡ j + 1
  unfolding source last_writer code
  source_written r j off e = rw (add-one, ne_eqb r 255 off, eq-eqb (entry b j).writes r e, add-one) refl

  pub source_kept : (r j : ℕ) → ((entry b j).writes ≡ r → ⊥) → code (source b r (j + 1)) ≡ code (source b r j)
  unfolding source last_writer code
  source_kept r j off = rw (add-one, ne_eqb (entry b j).writes r off) refl

  writer_most : (r j : ℕ) → code (last_writer b r j) ≤ j
  unfolding last_writer code
  writer_most r zero = omega arith
  writer_most r (suc j) =
      by_test (eqb (entry b j).writes r) (λ t. rw t (omega arith)) (λ t. rw t (omega (arith, writer_most r j)))

  pub source_most : (r j : ℕ) → code (source b r j) ≤ j
  unfolding source code
  source_most r j = by_test (eqb r 255) (λ t. rw t (omega arith)) (λ t. rw t (writer_most r j))

  -- ---- those of all registers, in a list

  pub sources_none : Sources b 0 (replicate 256 0)
  sources_none = record { each = λ r h. get_or_zeros 256 r ∙ sym (source_none r) }

  pub sources_next : (last : List ℕ) (j w : ℕ) → length last ≡ 256 → w < 256 → w ≡ (entry b j).writes → Sources b j last
      → Sources b (j + 1) (set (set last w (j + 1)) 255 0)
  sources_next last j w n k e a =
      let l = set last w (j + 1) in
      let m : 255 < length l = omega (arith, length-set last w (j + 1)) in
      record {
        each =
            λ r h.
            by_test (eqb r 255)
            (λ t. rw (eqb-true r 255 t) (get_or-set_same l 255 0 0 m ∙ sym (source_255 (j + 1))))
            (λ t.
            get_or-set_other l 255 r 0 0 (eqb-false r 255 t)
            ∙ by_test (eqb r w)
            (λ u.
            let f = eqb-true r w u in
            rw (f, get_or-set_same last w (j + 1) 0 (omega arith)) (sym (source_written w j (λ q. eqb-false r 255 t (f ∙ q)) (sym e))))
            (λ u.
            let f = eqb-false r w u in
            get_or-set_other last w r (j + 1) 0 f ∙ a.each r h ∙ sym (source_kept r j (λ q. f (sym (e ∙ q))))));
      }
