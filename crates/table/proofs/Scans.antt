-- Laws for the loops that test a part of the bytes one after the other.
use mathlib.Core.Bool.{Bool, true, false, ◌&&◌, and-false}
use mathlib.Core.List.{List, [], ◌∷◌, ◌++◌}
use mathlib.Core.Path.{◌≡◌, refl, sym}
use Prim.Native.Nat.{ℕ, zero, suc, ◌+◌, ◌<◌, ◌≤◌}
use native.Mathlib.Nat.{not-suc-le-zero, le_of_suc-le-suc}
use native.Mathlib.Numerals.{add-one}
use native.Mathlib.Omega.{arith}
use lib.ListN.{length, get_or, take}
use lib.Seq.{take_all, take-suc}
use Rattle.model.proofs.Tests.{and_left, and_right}
use Rattle.model.specs.Lists.{all_of}

-- ---- all of a list
all_append : {A : Type 0} (f : A → Bool) (xs ys : List A) → all_of f (xs ++ ys) ≡ (all_of f xs && all_of f ys)
all_append f [] ys = refl
all_append f (x ∷ xs) ys = simp (all_append f xs ys) (regroup (f x) (all_of f xs) (all_of f ys))
  where
    regroup : (a b c : Bool) → (a && (b && c)) ≡ (a && b && c)
    regroup true b c = refl
    regroup false b c = refl

all_more : {A : Type 0} (f : A → Bool) (l : List A) (j : ℕ) (d : A) → j < length l → all_of f (take j l) ≡ true → f (get_or l j d) ≡ true → all_of f (take (j + 1) l) ≡ true
all_more f l j d h p q = simp (add-one, take-suc l j d h, all_append, p, q)

all_fails : {A : Type 0} (f : A → Bool) (l : List A) (j : ℕ) (d : A) → j < length l → f (get_or l j d) ≡ false → all_of f l ≡ false
all_fails f [] j d h q = absurd (not-suc-le-zero h)
all_fails f (x ∷ l) zero d h q = rw q
all_fails f (x ∷ l) (suc j) d h q = rw (all_fails f l j d (le_of_suc-le-suc h) q) (and-false (f x))

pub all_at : (f : ℕ → Bool) (l : List ℕ) (j : ℕ) → j < length l → all_of f l ≡ true → f (get_or l j 0) ≡ true
all_at f [] j h p = absurd (not-suc-le-zero h)
all_at f (x ∷ l) zero h p = and_left (f x) (all_of f l) p
all_at f (x ∷ l) (suc j) h p = all_at f l j (le_of_suc-le-suc h) (and_right (f x) (all_of f l) p)

-- the elements before j passed the test
pub record Tested {A : Type 0} (f : A → Bool) (l : List A) (j : ℕ) : Type 0 where
  pub within : j ≤ length l
  pub passed : all_of f (take j l) ≡ true

module _ {A : Type 0} {f : A → Bool} {l : List A} {j : ℕ} (g : Tested f l j) (d : A) where
  pub tested_more : j < length l → f (get_or l j d) ≡ true → Tested f l (j + 1)
  tested_more h q = record { within = omega arith; passed = all_more f l j d h g.passed q }

  pub tested_fails : j < length l → f (get_or l j d) ≡ false → false ≡ all_of f l
  tested_fails h q = sym (all_fails f l j d h q)

module _ {A : Type 0} {f : A → Bool} {l : List A} {j : ℕ} (g : Tested f l j) where
  pub tested_end : length l ≤ j → true ≡ all_of f l
  tested_end h = sym (rw (take_all j l h) at g.passed)
