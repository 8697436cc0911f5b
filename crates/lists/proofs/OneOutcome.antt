-- One outcome: where a promise says what a result is, and what lent memory then holds, any two outcomes that it allows are
-- equal. Assumes nothing.
use mathlib.Core.Path.{◌≡◌, sym, ◌∙◌}

-- a result
pub one_value : {A : Type 0} (x y : A) {z : A} → x ≡ z → y ≡ z → x ≡ y
one_value x y p q = p ∙ sym q

-- a result and lent memory
pub one_outcome : {A B : Type 0} (x y : A) (p q : B) {z : A} {m : B} → x ≡ z → p ≡ m → y ≡ z → q ≡ m → (x ≡ y) × (p ≡ q)
one_outcome x y p q e f g h = (one_value x y e g, one_value p q f h)
