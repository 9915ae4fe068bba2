-- Laws of loops that write a buffer byte by byte.
use mathlib.Core.Path.{◌≡◌, refl, ap, ap₂, sym, ◌∙◌}
use mathlib.Core.List.{List, ◌++◌}
use Prim.Native.Nat.{ℕ, suc, ◌+◌, ◌<◌, ◌≤◌}
use native.Mathlib.Numerals.{add-one}
use native.Mathlib.Omega.{arith}
use lib.ListN.{length, get_or, take, drop, set, length-set, length-take, length-drop}
use lib.Seq.{take-suc, drop-cons, append_snoc, set_at, get_or-drop, paste, paste-zero, paste-suc, get_or-append-add}
use Rattle.buffers.specs.Buffers.{fronted}

-- ---- bytes written one after the other
-- the first j of s stand in l from `at` on
pub record Pasting (l s : List ℕ) (at : ℕ) (l' : List ℕ) (j : ℕ) : Type 0 where
  pub size : length l' ≡ length l
  pub is : l' ≡ paste l at s j

pub pasting_start : (l s : List ℕ) (at : ℕ) → Pasting l s at l 0
pasting_start l s at = record { size = refl; is = paste-zero l at s }

pub pasting_turn : (l s : List ℕ) (at : ℕ) (l' : List ℕ) (j v : ℕ) → Pasting l s at l' j → at + j < length l → j < length s → v ≡ get_or s j 0 → Pasting l s at (set l' (at + j) v) (j + 1)
pasting_turn l s at l' j v p h q e = record {
  size = length-set l' (at + j) v ∙ p.size;
  is = ap₂ (λ (x : List ℕ) (y : ℕ). set x (at + j) y) p.is e ∙ paste-suc l at s j 0 h q ∙ ap (paste l at s) (sym (add-one j));
}

-- ---- bytes moved to the front
front_length : (l : List ℕ) (from i : ℕ) → from + i ≤ length l → length (take i (drop from l)) ≡ i
front_length l from i h = simp (length-take, length-drop) (omega arith)

-- the first i are moved
pub record Fronting (l : List ℕ) (from : ℕ) (l' : List ℕ) (i : ℕ) : Type 0 where
  pub size : length l' ≡ length l
  pub is : l' ≡ fronted l from i

pub fronting_start : (l : List ℕ) (from : ℕ) → Fronting l from l 0
unfolding fronted
fronting_start l from = record { size = refl; is = refl }

-- a byte ahead of the front is still the first buffer's
fronted_ahead : (l : List ℕ) (from i : ℕ) → from + i ≤ length l → get_or (fronted l from i) (from + i) 0 ≡ get_or (drop from l) i 0
unfolding fronted
fronted_ahead l from i h =
    let n : from + i ≡ length (take i (drop from l)) + from = omega (arith, front_length l from i h) in
    let m : i + from ≡ from + i = omega arith in
    ap (λ (k : ℕ). get_or (take i (drop from l) ++ drop i l) k 0) n ∙ get_or-append-add (take i (drop from l)) (drop i l) from 0 ∙ get_or-drop i l from 0 ∙ ap (λ (k : ℕ). get_or l k 0) m ∙ sym (get_or-drop from l i 0)

fronted_more : (l : List ℕ) (from i : ℕ) → from + i < length l → set (fronted l from i) i (get_or (drop from l) i 0) ≡ fronted l from (i + 1)
unfolding fronted
fronted_more l from i h =
    let s = drop from l in
    ap (λ (y : List ℕ). set (take i s ++ y) i (get_or s i 0)) (drop-cons l i 0 (omega arith))
    ∙ set_at (take i s) (get_or l i 0) (drop (suc i) l) (get_or s i 0) i (front_length l from i (omega arith))
    ∙ sym (append_snoc (take i s) (get_or s i 0) (drop (suc i) l))
    ∙ ap (λ (y : List ℕ). y ++ drop (suc i) l) (sym (take-suc s i 0 (simp length-drop (omega arith))))
    ∙ ap (λ (k : ℕ). take k s ++ drop k l) (sym (add-one i))

pub fronting_turn : (l : List ℕ) (from : ℕ) (l' : List ℕ) (i : ℕ) → from + i < length l → Fronting l from l' i → Fronting l from (set l' i (get_or l' (from + i) 0)) (i + 1)
fronting_turn l from l' i h f = record {
  size = length-set l' i (get_or l' (from + i) 0) ∙ f.size;
  is = ap (λ (x : List ℕ). set x i (get_or x (from + i) 0)) f.is ∙ ap (λ (v : ℕ). set (fronted l from i) i v) (fronted_ahead l from i (omega arith)) ∙ fronted_more l from i h;
}
