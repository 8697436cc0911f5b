-- A buffer filled in order: after v turns its first v elements are those of a list built in order, and the rest is what
-- stood there. Assumes nothing.
use Prim.Native.Nat.{ℕ, suc, ◌+◌, ◌≤◌, ◌<◌}
use mathlib.Core.Path.{◌≡◌, refl, ap, ◌∙◌, sym}
use mathlib.Core.List.{List, [], ◌∷◌, ◌++◌, append_assoc}
use native.Mathlib.Omega.{arith}
use native.Mathlib.Numerals.{add-one}
use lib.ListN.{length, get_or, drop, set, length-append, length-drop, get_or-append}
use lib.Seq.{drop-cons, set_at}
use Rattle.lists.specs.Lists.{in_order}
use Rattle.lists.proofs.InOrder.{length_in_order}

pub record Filled {A : Type 0} (rule : List A → ℕ → A) (s₀ : List A) (v : ℕ) (s : List A) : Type 0 where
  pub is : s ≡ in_order rule v ++ drop v s₀

-- a rule that looks at what stands before v alone
pub record Looks {A : Type 0} (d : A) (rule : List A → ℕ → A) : Type 0 where
  pub looks : (s t : List A) (v : ℕ) → ((u : ℕ) → u < v → get_or s u d ≡ get_or t u d) → rule s v ≡ rule t v

module _ {A : Type 0} (rule : List A → ℕ → A) (s₀ : List A) where
  pub filled_none : Filled rule s₀ 0 s₀
  unfolding in_order
  filled_none = record { is = refl }

  pub filled_length : (v : ℕ) (s : List A) → v ≤ length s₀ → Filled rule s₀ v s → length s ≡ length s₀
  filled_length v s h e =
      omega (arith, ap length e.is, length-append (in_order rule v) (drop v s₀), length-drop v s₀, length_in_order rule v)

  -- what is filled is the list
  pub filled_at : (d : A) (v : ℕ) (s : List A) → Filled rule s₀ v s → (u : ℕ) → u < v → get_or s u d ≡ get_or (in_order rule v) u d
  filled_at d v s e u l =
      ap (λ (t : List A). get_or t u d) e.is ∙ get_or-append (in_order rule v) (drop v s₀) d u (omega (arith, length_in_order rule v))

  module _ (d : A) (looks : Looks d rule) where
    -- the rule makes the same of the buffer and of the list
    pub filled_rule : (v : ℕ) (s : List A) → Filled rule s₀ v s → rule s v ≡ rule (in_order rule v) v
    filled_rule v s e = looks.looks s (in_order rule v) v (filled_at d v s e)

    -- one element more
    pub filled_more : (v w : ℕ) (s : List A) (x : A) → w ≡ v + 1 → v < length s₀ → Filled rule s₀ v s → x ≡ rule s v → Filled rule s₀ w (set s v x)
    unfolding in_order
    filled_more v w s x n h e q =
        let k : w ≡ suc v = n ∙ add-one v in
        record {
          is =
              ap (λ (t : List A). set t v x) (e.is ∙ ap (λ (t : List A). in_order rule v ++ t) (drop-cons s₀ v x h))
              ∙ set_at (in_order rule v) _ (drop (suc v) s₀) x v (length_in_order rule v)
              ∙ ap (λ (y : A). in_order rule v ++ (y ∷ drop (suc v) s₀)) (q ∙ filled_rule v s e)
              ∙ sym (append_assoc (in_order rule v) (rule (in_order rule v) v ∷ []) (drop (suc v) s₀))
              ∙ ap (λ (y : ℕ). in_order rule y ++ drop y s₀) (sym k);
        }
