-- Texts put one after the other. Assumes nothing.
use mathlib.Core.Path.{◌≡◌, refl, sym, ◌∙◌}
use mathlib.Core.List.{List, [], ◌∷◌, ◌++◌, append_assoc}
use Prim.Native.Nat.{ℕ, ◌+◌, ◌≤◌}
use native.Mathlib.Nat.{add_assoc, zero-add}
use native.Mathlib.Numerals.{add-one}
use native.Mathlib.Omega.{arith}
use lib.ListN.{length, take, drop, length-append, length-drop}
use lib.Seq.{length-take-le}
use Rattle.io.specs.Counts.{IsPrefixLen}
use Rattle.lists.specs.Lists.{joined, put}
use Rattle.lists.proofs.JoinedPieces.{put_next}
use Rattle.report_lines.specs.Text.{spaced}
use Rattle.report_lines.specs.declared.fields.Output.{Output}
use Rattle.report_lines.specs.inside.TextSteps.{Adds, Room}

module _ (o : List ℕ) (i : ℕ) (xs : List ℕ) where
  length_front : i ≤ length o → length (take i o ++ xs) ≡ i + length xs
  length_front l = length-append (take i o) xs ∙ rw (length-take-le i o l) refl

  pub length_put : i + length xs ≤ length o → length (put o i xs) ≡ length o
  length_put l =
      length-append (take i o ++ xs) (drop (i + length xs) o)
      ∙ rw (length_front (omega arith), length-drop (i + length xs) o) (omega arith)

  -- two texts, the second behind the first, are their sum
  pub put_put : (ys : List ℕ) (j : ℕ) → i ≤ length o → j ≡ i + length xs → put (put o i xs) j ys ≡ put o i (xs ++ ys)
  put_put ys j l e =
      rw e
      (put_next (take i o ++ xs) ys o (i + length xs) (length_front l)
      ∙ rw (length-append xs ys, ← add_assoc i (length xs) (length ys), append_assoc (take i o) xs ys) refl)

-- a text at the start of o has as many bytes as it is long
pub put_counts : (o xs p : List ℕ) (r : ℕ) → r ≡ length xs → p ≡ put o 0 xs → IsPrefixLen r p
put_counts o xs p r n e =
    let l : length (put o 0 xs) ≡ length xs + length (drop (0 + length xs) o) = length-append (take 0 o ++ xs) (drop (0 + length xs) o) in
    let m : r ≤ length p = rw e (omega (arith, l)) in
    (m, sym (length-take-le r p m))

-- an output has as many bytes as before a text was added
pub same_length : {x : List ℕ} {n k : ℕ} {p q : Output} → Room p k → n ≤ k → Adds x n p q → length q.bytes.now ≡ length p.bytes.now
same_length {x} {p = p} l e f = rw f.puts.output (length_put p.bytes.now p.at x (omega (arith, f.puts.next, f.puts.few)))

-- and behind that text there is the room that is left
room_after : {x : List ℕ} {n k : ℕ} {p q : Output} (m : ℕ) → Room p k → n + m ≤ k → Adds x n p q → Room q m
room_after m l e f = rw (same_length l (omega arith) f) (omega (arith, f.puts.few))

-- one text added behind another is their sum
pub adds_next : {x y : List ℕ} {n k : ℕ} {p q r : Output} (m : ℕ) → Room p k → n + m ≤ k → Adds x n p q → (Room q m → Adds y m q r) → Adds (x ++ y) k p r
adds_next {x} {y} {p = p} {q = q} m l e f more =
    let g = more (room_after m l e f) in
    record {
      same_reference = g.same_reference ∙ f.same_reference;
      puts =
          record {
            next = omega (arith, f.puts.next, g.puts.next, length-append x y);
            few = omega (arith, f.puts.few, g.puts.few);
            output = g.puts.output ∙ rw f.puts.output (put_put p.bytes.now p.at x y q.at (omega arith) f.puts.next);
          };
    }

-- the same text under another name, and with more room
pub adds_as : {x y : List ℕ} {n k : ℕ} {p q : Output} → x ≡ y → n ≤ k → Adds y n p q → Adds x k p q
adds_as e l f =
    rw e
    (record {
      same_reference = f.same_reference;
      puts = record { next = f.puts.next; few = omega (arith, f.puts.few); output = f.puts.output };
    })

-- the last field of a line, and one before others
spaced_one : (x : List ℕ) → spaced (x ∷ []) ≡ x ++ (10 ∷ [])
unfolding spaced
spaced_one x = refl

spaced_more : (x y : List ℕ) (ys : List (List ℕ)) → spaced (x ∷ y ∷ ys) ≡ (x ++ (32 ∷ [])) ++ spaced (y ∷ ys)
unfolding spaced
spaced_more x y ys = sym (append_assoc x (32 ∷ []) (spaced (y ∷ ys)))

pub last_field : (x : List ℕ) {n : ℕ} {p q : Output} → Adds (x ++ (10 ∷ [])) n p q → Adds (spaced (x ∷ [])) n p q
last_field x f = rw (spaced_one x) f

pub more_fields : (x y : List ℕ) (ys : List (List ℕ)) {n k : ℕ} {p q r : Output} (m : ℕ) → Room p k → n + m ≤ k → Adds (x ++ (32 ∷ [])) n p q
    → (Room q m → Adds (spaced (y ∷ ys)) m q r)
    → Adds (spaced (x ∷ y ∷ ys)) k p r
more_fields x y ys m l e f more = rw (spaced_more x y ys) (adds_next m l e f more)

-- k texts one after the other from the start of o, and one more behind them
pub texts_more : (f : ℕ → List ℕ) (o p q x : List ℕ) (k i j : ℕ) → x ≡ f k → i ≡ length (joined k f) → p ≡ put o 0 (joined k f)
    → j ≡ i + length x → q ≡ put p i x
    → (j ≡ length (joined (k + 1) f)) × (q ≡ put o 0 (joined (k + 1) f))
unfolding joined
texts_more f o p q x k i j e n t m u =
    let s : joined (k + 1) f ≡ joined k f ++ x = rw (add-one, e) refl in
    rw s (omega (arith, length-append (joined k f) x), u ∙ rw t (put_put o 0 (joined k f) x i (omega arith) (rw zero-add n)))
