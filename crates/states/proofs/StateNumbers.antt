-- Laws of state numbers.
use mathlib.Core.Path.{◌≡◌, refl, ap, sym, ◌∙◌}
use mathlib.Core.Bool.{true, false, cond, ◌&&◌, ◌||◌}
use mathlib.Core.List.{List, [], ◌∷◌}
use Prim.Native.Nat.{ℕ, suc, ◌+◌, ◌*◌, ◌/◌, ◌%◌, ◌<◌, ◌≤◌}
use native.Mathlib.Omega.{arith}
use native.Mathlib.Nat.{mul-le-mul_right, suc-mul, div-div-eq-div-mul}
use lib.Dec.{eqb, ltb}
use borrow.Author.Tests.{eqb-true, eqb-false, eq-eqb, ltb-true, ltb-false, lt-ltb, le-ltb}
use Rattle.model.specs.declared.Group.{Group}
use Rattle.model.specs.Groups.{Process, Processes, p0, p1, p2, p3, at, has}
use Rattle.model.specs.Log.{lex_less}
use Rattle.model.specs.Records.{group_bytes}
use Rattle.model.proofs.Groups.{ext, at_build}
use Rattle.model.proofs.Tests.{by_test}
use Rattle.states.specs.StateNumbers.{state_count, state_number, digit, group_numbered, Over, NumberOver}

pub state_number_below : (g : Group) → state_number g < state_count
unfolding state_number
state_number_below g = omega arith

-- the bits of a process in the number of a group
pub digit_number : (g : Group) (i : Process) → digit (state_number g) i ≡ at g i % 8
unfolding state_number
digit_number g p0 = omega arith
digit_number g p1 = omega arith
digit_number g p2 = omega arith
digit_number g p3 = omega arith

pub at_numbered : (L : Processes) (n : ℕ) (i : Process) → at (group_numbered L n) i ≡ cond (has L i) (digit n i) 255
unfolding group_numbered
at_numbered L n i = at_build (λ i. cond (has L i) (digit n i) 255) i

-- a group is found again from its number
pub numbered_number : (L : Processes) (g : Group) → Over L g → group_numbered L (state_number g) ≡ g
numbered_number L g o = ext (λ i. at_numbered L (state_number g) i ∙ by_test (has L i) (inside i) (outside i))
  where
    inside : (i : Process) → has L i ≡ true → cond (has L i) (digit (state_number g) i) 255 ≡ at g i
    inside i h = rw h (digit_number g i ∙ omega (arith, o.inside i h))

    outside : (i : Process) → has L i ≡ false → cond (has L i) (digit (state_number g) i) 255 ≡ at g i
    outside i h = rw h (sym (o.outside i h))

-- the group that a number stands for is one of the processes L
pub numbered_over : (L : Processes) (n : ℕ) → Over L (group_numbered L n)
numbered_over L n = record { inside = λ i h. rw (at_numbered L n i, h) (digit_below i); outside = λ i h. rw (at_numbered L n i, h) refl }
  where
    digit_below : (i : Process) → digit n i < 8
    digit_below p0 = omega arith
    digit_below p1 = omega arith
    digit_below p2 = omega arith
    digit_below p3 = omega arith

-- a number is made of its bits
pub digits_number : (n : ℕ) → n < state_count → digit n p0 * 512 + digit n p1 * 64 + digit n p2 * 8 + digit n p3 ≡ n
digits_number n h = rw (← div-div-eq-div-mul n 64 8, ← div-div-eq-div-mul n 8 8) (whole (n / 8) (n / 8 / 8) (n / 8 / 8 / 8) refl refl refl)
  where
    whole : (x y z : ℕ) → x ≡ n / 8 → y ≡ x / 8 → z ≡ y / 8 → z % 8 * 512 + y % 8 * 64 + x % 8 * 8 + n % 8 ≡ n
    whole x y z e f g =
        let a : z * 8 + y % 8 ≡ y = omega arith in
        let b : y * 8 + x % 8 ≡ x = omega arith in
        let c : x * 8 + n % 8 ≡ n = omega arith in
        let d : z % 8 ≡ z = omega arith in
        omega arith

-- the number of a group of the processes L is such a number
pub number_over : (L : Processes) (g : Group) → Over L g → NumberOver L (state_number g)
number_over L g o = record { below = state_number_below g; outside = λ i h. digit_number g i ∙ ap (λ (s : ℕ). s % 8) (o.outside i h) }

pub number_injective : (L : Processes) (g h : Group) → Over L g → Over L h → state_number g ≡ state_number h → g ≡ h
number_injective L g h o q e = sym (numbered_number L g o) ∙ ap (λ (n : ℕ). group_numbered L n) e ∙ numbered_number L h q

-- ---- the order of the numbers
-- two local states compare as their bits do
record Alike (a b : ℕ) : Type 0 where
  less : ltb a b ≡ ltb (a % 8) (b % 8)
  same : eqb a b ≡ eqb (a % 8) (b % 8)

alike_small : (a b : ℕ) → a < 8 → b < 8 → Alike a b
alike_small a b p q =
    let x : a % 8 ≡ a = omega arith in
    let y : b % 8 ≡ b = omega arith in
    record { less = rw (x, y) refl; same = rw (x, y) refl }

alike_equal : (a b : ℕ) → a ≡ b → Alike a b
alike_equal a b e = record {
  less = le-ltb a b (omega arith) ∙ sym (le-ltb (a % 8) (b % 8) (omega arith));
  same = eq-eqb a b e ∙ sym (eq-eqb (a % 8) (b % 8) (omega arith));
}

alike : (L : Processes) (g h : Group) → Over L g → Over L h → (i : Process) → Alike (at g i) (at h i)
alike L g h o q i = by_test (has L i)
    (λ t. alike_small (at g i) (at h i) (o.inside i t) (q.inside i t))
    (λ f. alike_equal (at g i) (at h i) (o.outside i f ∙ sym (q.outside i f)))

-- of two numbers in digits of weight w, the first digit decides unless it is the same
digits_order : (w a b m n : ℕ) → m < w → n < w → ltb (a * w + m) (b * w + n) ≡ ltb a b || (eqb a b && ltb m n)
digits_order w a b m n p q = by_test (ltb a b)
    (λ t. rw t (
    let l : a * w + w ≤ b * w = rw suc-mul at (mul-le-mul_right {m = suc a} {n = b} w (ltb-true a b t)) in
    lt-ltb (a * w + m) (b * w + n) (omega arith)))
    (λ f. rw f (by_test (eqb a b)
    (λ t. rw t (rw (eqb-true a b t) (same_digit b)))
    (λ e. rw e (
    let ne : a ≡ b → ⊥ = eqb-false a b e in
    let gt : b ≤ a = ltb-false a b f in
    let l : b * w + w ≤ a * w = rw suc-mul at (mul-le-mul_right {m = suc b} {n = a} w (omega arith)) in
    le-ltb (a * w + m) (b * w + n) (omega arith)))))
  where
    same_digit : (c : ℕ) → ltb (c * w + m) (c * w + n) ≡ ltb m n
    same_digit c = by_test (ltb m n)
        (λ t. rw t (let l : m < n = ltb-true m n t in lt-ltb (c * w + m) (c * w + n) (omega arith)))
        (λ f. rw f (let l : n ≤ m = ltb-false m n f in le-ltb (c * w + m) (c * w + n) (omega arith)))

-- one process more in front
lex_step : (w a b m n : ℕ) (xs ys : List ℕ) → Alike a b → m < w → n < w → lex_less xs ys ≡ ltb m n
    → lex_less (a ∷ xs) (b ∷ ys) ≡ ltb (a % 8 * w + m) (b % 8 * w + n)
lex_step w a b m n xs ys k p q e = rw (k.less, k.same, e) (sym (digits_order w (a % 8) (b % 8) m n p q))

-- the number of a group by its processes from 3 down to 0
abbrev from3 : Group → ℕ
from3 g = g.s3 % 8 * 1 + 0

abbrev from2 : Group → ℕ
from2 g = g.s2 % 8 * 8 + from3 g

abbrev from1 : Group → ℕ
from1 g = g.s1 % 8 * 64 + from2 g

abbrev from0 : Group → ℕ
from0 g = g.s0 % 8 * 512 + from1 g

from0_number : (g : Group) → from0 g ≡ state_number g
unfolding state_number
from0_number g = omega arith

-- groups of the processes L, compared process 0 first, are in the order of their numbers
pub number_order : (L : Processes) (g h : Group) → Over L g → Over L h → lex_less (group_bytes g) (group_bytes h) ≡ ltb (state_number g) (state_number h)
number_order L g h o q =
    rw (← from0_number g, ← from0_number h)
    (step 512 p0 (λ x. x.s1 ∷ x.s2 ∷ x.s3 ∷ []) from1 (omega arith) (omega arith)
    (step 64 p1 (λ x. x.s2 ∷ x.s3 ∷ []) from2 (omega arith) (omega arith)
    (step 8 p2 (λ x. x.s3 ∷ []) from3 (omega arith) (omega arith)
    (step 1 p3 (λ x. []) (λ x. 0) (omega arith) (omega arith) refl))))
  where
    step : (w : ℕ) (i : Process) (states : Group → List ℕ) (value : Group → ℕ) → value g < w → value h < w → lex_less (states g) (states h) ≡ ltb (value g) (value h)
        → lex_less (at g i ∷ states g) (at h i ∷ states h) ≡ ltb (at g i % 8 * w + value g) (at h i % 8 * w + value h)
    step w i states value p r e = lex_step w (at g i) (at h i) (value g) (value h) (states g) (states h) (alike L g h o q i) p r e
