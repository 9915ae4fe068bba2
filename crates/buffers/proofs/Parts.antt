-- Parts of a lent slice: written from end to end, and handed back.
use mathlib.Core.Path.{◌≡◌, refl, ap, ap₂, sym, ◌∙◌}
use mathlib.Core.List.{List, [], ◌++◌, append-nil, append_assoc}
use Prim.Native.Nat.{ℕ, ◌+◌, ◌-◌, ◌≤◌}
use native.Mathlib.Omega.{arith}
use lib.ListN.{length, take, drop, length-append, length-drop, drop_of_length-le}
use lib.Seq.{sets-eq, take_at, drop_at, drop-drop, take_all}
use Rattle.model.specs.Records.{little_endian}
use Rattle.numbers.specs.NumberBytes.{with_number}
use Rattle.numbers.proofs.NumberBytes.{length_little}
use native.Mathlib.Nat.{add-sub_cancel_left}

-- q has the a bytes pre, and then what l has from there on
pub record Front (pre l : List ℕ) (a : ℕ) (q : List ℕ) : Type 0 where
  pub same : q ≡ pre ++ drop a l
  pub size : length pre ≡ a

pub front_none : (l : List ℕ) → Front [] l 0 l
front_none l = record { same = refl; size = refl }

-- the next k bytes, lent to a writer of bs, come back as ys
pub front_more : {pre l q ys bs : List ℕ} {a : ℕ} (k : ℕ) → Front pre l a q → ys ≡ bs → length bs ≡ k
    → Front (pre ++ bs) l (a + k) (take a q ++ (ys ++ drop k (drop a q)))
front_more {pre} {l} {q} {ys} {bs} {a} k w e n = record {
  same = rw (w.same, e, take_at pre (drop a l) a w.size, drop_at pre (drop a l) a w.size, drop-drop k a l) (sym (append_assoc pre bs (drop (a + k) l)));
  size = length-append pre bs ∙ omega (arith, w.size);
}

pub front_length : {pre l q : List ℕ} {a : ℕ} → Front pre l a q → a ≤ length l → length q ≡ length l
front_length {pre} {l} {q} {a} w h = ap length w.same ∙ length-append pre (drop a l) ∙ omega (arith, w.size, length-drop a l)

-- the next k bytes are written as a number
pub front_number : {pre l q r : List ℕ} {a : ℕ} (k x : ℕ) → Front pre l a q → a + k ≤ length l → r ≡ with_number k q a x → Front (pre ++ little_endian k x) l (a + k) r
unfolding with_number
front_number {pre} {l} {q} {r} {a} k x w h e =
    let bs = little_endian k x in
    let n : length bs ≡ k = length_little k x in
    let room : a + length bs ≤ length q = omega (arith, n, front_length w (omega arith)) in
    let before : take a q ≡ pre = ap (take a) w.same ∙ take_at pre (drop a l) a w.size in
    let behind : drop (a + length bs) q ≡ drop (a + k) l =
    ap (λ (m : ℕ). drop (a + m) q) n ∙ sym (drop-drop k a q) ∙ ap (drop k) (ap (drop a) w.same ∙ drop_at pre (drop a l) a w.size) ∙ drop-drop k a l in
    record { same = e ∙ sets-eq bs q a room ∙ ap₂ (λ (x y : List ℕ). x ++ bs ++ y) before behind; size = length-append pre bs ∙ omega (arith, w.size) }

-- to the end
pub front_all : {pre l q : List ℕ} {a : ℕ} → Front pre l a q → length l ≤ a → q ≡ pre
front_all {pre} {l} {q} {a} w h = w.same ∙ ap (λ (d : List ℕ). pre ++ d) (drop_of_length-le l {i = a} h) ∙ append-nil pre

-- a slice after a part from a to its end came back: the part takes the place of the rest
pub part_back : (l ys : List ℕ) (a : ℕ) → take a l ++ (ys ++ drop (length l - a) (drop a l)) ≡ take a l ++ ys
part_back l ys a = rw (drop_of_length-le (drop a l) {i = length l - a} (omega (arith, length-drop a l)), append-nil ys)

-- the part from a to the end, as a call is handed it
pub part_rest : (l : List ℕ) (a : ℕ) → take (length l - a) (drop a l) ≡ drop a l
part_rest l a = take_all (length l - a) (drop a l) (omega (arith, length-drop a l))

pub part_front : (l : List ℕ) (a n : ℕ) → take (a + n - a) (drop a l) ≡ take n (drop a l)
part_front l a n = rw (add-sub_cancel_left a n)

pub part_behind : (l : List ℕ) (a n : ℕ) → take (length l - (a + n)) (drop (a + n) l) ≡ drop n (drop a l)
part_behind l a n = take_all (length l - (a + n)) (drop (a + n) l) (simp (length-drop) (omega arith)) ∙ sym (drop-drop n a l)
