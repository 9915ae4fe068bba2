-- Tests as equations.
use mathlib.Core.Path.{◌∙◌, ◌≡◌, refl, sym}
use mathlib.Core.Bool.{Bool, ◌&&◌, ◌||◌, cond, false, false≢true, not, true, true≢false}
use Prim.Native.Nat.{◌<◌, suc, zero, ℕ}
use native.Mathlib.Omega.{arith}
use Rattle.model.specs.Groups.{Process, every, p0, p1, p2, p3}
use lib.Dec.{eqb}
use borrow.Author.Tests.{eqb-true, eqb-false}
use Rattle.model.specs.Lists.{all_below}
use native.Mathlib.Nat.{not-suc-le-zero}

-- a test is true or false, with the equation
pub by_test {ℓ} : {C : Type ℓ} (b : Bool) → (b ≡ true → C) → (b ≡ false → C) → C
by_test true f g = f refl
by_test false f g = g refl

-- two tests that hold in the same cases are equal
pub same_test : (a b : Bool) → (a ≡ true → b ≡ true) → (b ≡ true → a ≡ true) → a ≡ b
same_test true b f g = sym (f refl)
same_test false b f g = by_test b (λ y. g y ∙ sym y) (λ n. sym n)

-- ---- tests as equations
pub and_left : (a b : Bool) → (a && b) ≡ true → a ≡ true
and_left true b e = refl
and_left false b e = e

pub and_right : (a b : Bool) → (a && b) ≡ true → b ≡ true
and_right true b e = e
and_right false b e = absurd (false≢true e)

pub and_both : (a b : Bool) → a ≡ true → b ≡ true → (a && b) ≡ true
and_both true b p q = q
and_both false b p q = p

pub or_left : (a b : Bool) → (a || b) ≡ false → a ≡ false
or_left true b e = e
or_left false b e = refl

pub or_right : (a b : Bool) → (a || b) ≡ false → b ≡ false
or_right true b e = absurd (true≢false e)
or_right false b e = e

pub implies : (a b : Bool) → (not a || b) ≡ true → a ≡ true → b ≡ true
implies true b e m = e
implies false b e m = absurd (false≢true m)

pub implied : (a b : Bool) → (a ≡ true → b ≡ true) → (not a || b) ≡ true
implied true b f = f refl
implied false b f = refl

pub cond_less : (b : Bool) (x y n : ℕ) → (b ≡ true → x < n) → y < n → cond b x y < n
cond_less true x y n p q = p refl
cond_less false x y n p q = q

-- zero or more
pub by_zero {ℓ} : {C : Type ℓ} (n : ℕ) → (n ≡ 0 → C) → (0 < n → C) → C
by_zero zero f g = f refl
by_zero (suc n) f g = g (omega arith)

-- what holds at each process
pub each_process : (P : Process → Type 0) → P p0 → P p1 → P p2 → P p3 → (i : Process) → P i
each_process P a b c d p0 = a
each_process P a b c d p1 = b
each_process P a b c d p2 = c
each_process P a b c d p3 = d

pub every_of : (f : Process → Bool) → ((i : Process) → f i ≡ true) → every f ≡ true
every_of f h = rw (h p0, h p1, h p2, h p3)

pub every_at : (f : Process → Bool) → every f ≡ true → (i : Process) → f i ≡ true
every_at f e p0 = and_left (f p0) (f p1) (and_left (f p0 && f p1) (f p2) (and_left (f p0 && f p1 && f p2) (f p3) e))
every_at f e p1 = and_right (f p0) (f p1) (and_left (f p0 && f p1) (f p2) (and_left (f p0 && f p1 && f p2) (f p3) e))
every_at f e p2 = and_right (f p0 && f p1) (f p2) (and_left (f p0 && f p1 && f p2) (f p3) e)
every_at f e p3 = and_right (f p0 && f p1 && f p2) (f p3) e

-- ---- tests computed over all numbers below a bound
abbrev pub same_bool : Bool → Bool → Bool
same_bool true b = b
same_bool false true = false
same_bool false false = true

pub same_bool_lem : (a b : Bool) → same_bool a b ≡ true → a ≡ b
same_bool_lem true b e = sym e
same_bool_lem false true e = e
same_bool_lem false false e = refl

pub all_below_of : (n : ℕ) (f : ℕ → Bool) → ((k : ℕ) → k < n → f k ≡ true) → all_below n f ≡ true
all_below_of zero f h = refl
all_below_of (suc n) f h = and_both (all_below n f) (f n) (all_below_of n f (λ k l. h k (omega arith))) (h n (omega arith))

pub all_below_at : (n : ℕ) (f : ℕ → Bool) → all_below n f ≡ true → (k : ℕ) → k < n → f k ≡ true
all_below_at zero f e k l = absurd (not-suc-le-zero l)
all_below_at (suc n) f e k l =
    by_test (eqb k n)
    (λ y. rw (eqb-true k n y) (and_right (all_below n f) (f n) e))
    (λ y. let q : k ≡ n → ⊥ = eqb-false k n y in all_below_at n f (and_left (all_below n f) (f n) e) k (omega arith))

pub all_below_fails : (n : ℕ) (f : ℕ → Bool) (k : ℕ) → k < n → f k ≡ false → all_below n f ≡ false
all_below_fails n f k l e = by_test (all_below n f) (λ y. absurd (true≢false (sym (all_below_at n f y k l) ∙ e))) (λ y. y)

pub or_true_left : (a b : Bool) → a ≡ true → (a || b) ≡ true
or_true_left a b e = rw e

pub or_true_right : (a b : Bool) → b ≡ true → (a || b) ≡ true
or_true_right true b e = refl
or_true_right false b e = e
