-- Laws of a word at the end of its buffer: letters moved one place on, letters written in front.
use mathlib.Core.Path.{◌≡◌, refl, ap, ap₂, sym, ◌∙◌}
use mathlib.Core.List.{List, [], ◌∷◌, ◌++◌, append_assoc}
use Prim.Native.Nat.{ℕ, zero, suc, ◌+◌, ◌-◌, ◌<◌, ◌≤◌}
use native.Mathlib.Nat.{not-suc-le-zero}
use native.Mathlib.Numerals.{add-one}
use native.Mathlib.Omega.{arith}
use lib.ListN.{length, get_or, take, drop, set, take-append-drop, length-take, get_or-append}
use lib.Seq.{take-suc, drop-cons, append_snoc, set_at, length-take-le, take-append-le, take-take, drop_at, take_all, paste, get_or-take}
use Rattle.model.specs.Lists.{Each}
use Rattle.firing.specs.Places.{closed, rewritten}

-- a letter of the word, by its place in the buffer
pub letter_at_lem : (n : ℕ) (l : List ℕ) (top j : ℕ) → Each (λ (a : ℕ). a < n) (drop top l) → top ≤ j → j < length l → get_or l j 0 < n
letter_at_lem n [] top j e h q = absurd (not-suc-le-zero q)
letter_at_lem n (x ∷ l) zero zero e h q = e.0
letter_at_lem n (x ∷ l) zero (suc j) e h q = letter_at_lem n l zero j e.1 (omega arith) (omega arith)
letter_at_lem n (x ∷ l) (suc top) zero e h q = absurd (omega arith)
letter_at_lem n (x ∷ l) (suc top) (suc j) e h q = letter_at_lem n l top j e (omega arith) (omega arith)

-- ---- one place on
-- nothing is moved yet
pub closed_none : (l : List ℕ) (p : ℕ) → l ≡ closed l p p
unfolding closed
closed_none l p =
    let z : p - p ≡ 0 = omega arith in
    rw z (sym (take-append-drop (p + 1) l))

-- what the letter at i, the last of the front, comes to
one_more : (l : List ℕ) (i p : ℕ) → i < p → p < length l → get_or l i 0 ∷ take (p - suc i) (drop (suc i) l) ≡ take (p - i) (drop i l)
one_more l i p h q =
    let e : p - i ≡ suc (p - suc i) = omega arith in
    rw (e, drop-cons l i 0 (omega arith)) refl

-- one letter more is moved
pub closed_turn : (l : List ℕ) (j p : ℕ) → 0 < j → j ≤ p → p < length l → set (closed l j p) j (get_or (closed l j p) (j - 1) 0) ≡ closed l (j - 1) p
unfolding closed
closed_turn l zero p z h q = absurd (omega arith)
closed_turn l (suc i) p z h q =
    let x = take (p - suc i) (drop (suc i) l) ++ drop (p + 1) l in
    let s : suc i - 1 ≡ i = omega arith in
    let a : take (suc i + 1) l ≡ take (suc i) l ++ (get_or l (suc i) 0 ∷ []) = ap (λ (n : ℕ). take n l) (add-one (suc i)) ∙ take-suc l (suc i) 0 (omega arith) in
    let n : length (take (suc i) l) ≡ suc i = length-take-le (suc i) l (omega arith) in
    let b : take (suc i + 1) l ++ x ≡ take (suc i) l ++ get_or l (suc i) 0 ∷ x = ap (λ (y : List ℕ). y ++ x) a ∙ append_snoc (take (suc i) l) (get_or l (suc i) 0) x in
    let read : get_or (take (suc i + 1) l ++ x) (suc i - 1) 0 ≡ get_or l i 0 =
    ap (λ (k : ℕ). get_or (take (suc i + 1) l ++ x) k 0) s ∙ get_or-append (take (suc i + 1) l) x 0 i (simp length-take (omega arith)) ∙ get_or-take (suc i + 1) l i 0 (omega arith) in
    ap₂ (λ (y : List ℕ) (v : ℕ). set y (suc i) v) b read
    ∙ set_at (take (suc i) l) (get_or l (suc i) 0) x (get_or l i 0) (suc i) n
    ∙ ap (λ (y : List ℕ). take (suc i) l ++ (y ++ drop (p + 1) l)) (one_more l i p (omega arith) q)
    ∙ ap (λ (k : ℕ). take k l ++ (take (p - i) (drop i l) ++ drop (p + 1) l)) (sym (add-one i))
    ∙ ap (λ (k : ℕ). take (k + 1) l ++ (take (p - k) (drop k l) ++ drop (p + 1) l)) (sym s)

-- ---- letters in front
-- the whole of u, written over the places from `at` on
pub paste_all : (l u : List ℕ) (at : ℕ) → paste l at u (length u) ≡ take at l ++ (u ++ drop (at + length u) l)
paste_all l u at = append_assoc (take at l) (take (length u) u) (drop (at + length u) l) ∙ ap (λ (v : List ℕ). take at l ++ (v ++ drop (at + length u) l)) (take_all (length u) u (omega arith))

-- letters are moved on, and u is written in front of them
pub closed_written : (l u : List ℕ) (top p : ℕ) → top ≤ p → p < length l → length u ≤ top + 1
    → paste (closed l top p) (top + 1 - length u) u (length u) ≡ rewritten l top p u
unfolding closed rewritten
closed_written l u top p h q f =
    let x = take (p - top) (drop top l) ++ drop (p + 1) l in
    let at = top + 1 - length u in
    let n : length (take (top + 1) l) ≡ top + 1 = length-take-le (top + 1) l (omega arith) in
    let end : top + 1 - length u + length u ≡ top + 1 = omega arith in
    let front : take at (take (top + 1) l ++ x) ≡ take at l = take-append-le at (take (top + 1) l) x (omega arith) ∙ take-take at (top + 1) l (omega arith) in
    let back : drop (at + length u) (take (top + 1) l ++ x) ≡ x = ap (λ (k : ℕ). drop k (take (top + 1) l ++ x)) end ∙ drop_at (take (top + 1) l) x (top + 1) n in
    paste_all (take (top + 1) l ++ x) u at ∙ ap₂ (λ (y z : List ℕ). y ++ (u ++ z)) front back
