-- The four words of bits that rest can be, bit by bit.
use mathlib.Core.Path.{◌≡◌, refl, sym, subst}
use mathlib.Core.Bool.{Bool, true, false, not, ◌&&◌}
use Prim.Native.Nat.{ℕ, zero, suc, ◌/◌, ◌%◌, ◌<◌}
use native.Mathlib.Decide.{ℕ_discrete}
use native.Mathlib.Omega.{arith}
use lib.Dec.{ltb}
use Rattle.model.proofs.Tests.{and_left, and_right}
use Rattle.wordsets.specs.WordSets.{has_bit, RestBits}

abbrev equal : Bool → Bool → Bool
equal true b = b
equal false b = not b

equal_is : (a b : Bool) → equal a b ≡ true → a ≡ b
equal_is true b e = sym e
equal_is false true e = e
equal_is false false e = refl

-- a word's bits below n, one by one
abbrev right_below : ℕ → ℕ → ℕ → ℕ → Bool
right_below zero rest second third = true
right_below (suc n) rest second third = equal (has_bit rest n) (ltb (n / 8) second && ltb (n % 8) third) && right_below n rest second third

right_below_lem : (n rest second third : ℕ) → right_below n rest second third ≡ true → (m : ℕ) → m < n → has_bit rest m ≡ ltb (m / 8) second && ltb (m % 8) third
right_below_lem zero rest second third e m h = absurd (omega arith)
right_below_lem (suc n) rest second third e m h =
    let now = equal (has_bit rest n) (ltb (n / 8) second && ltb (n % 8) third) in
    elim (ℕ_discrete n m) [
      | yes q ↦ subst (λ (k : ℕ). has_bit rest k ≡ ltb (k / 8) second && ltb (k % 8) third) q
          (equal_is (has_bit rest n) (ltb (n / 8) second && ltb (n % 8) third) (and_left now (right_below n rest second third) e))
      | no q ↦ right_below_lem n rest second third (and_right now (right_below n rest second third) e) m (omega arith)
    ]

pub one_bit : RestBits 1 1 1
unfolding has_bit
one_bit = right_below_lem 64 1 1 1 refl

pub first_byte : RestBits 255 1 8
unfolding has_bit
first_byte = right_below_lem 64 255 1 8 refl

pub low_bits : RestBits 72340172838076673 8 1
unfolding has_bit
low_bits = right_below_lem 64 72340172838076673 8 1 refl

pub all_bits : RestBits 18446744073709551615 8 8
unfolding has_bit
all_bits = right_below_lem 64 18446744073709551615 8 8 refl
