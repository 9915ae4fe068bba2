-- What check 5 says of a body.
use mathlib.Core.Bool.{Bool, true, ◌&&◌}
use mathlib.Core.List.{List}
use mathlib.Core.Path.{◌≡◌}
use Prim.Native.Nat.{ℕ, zero, suc, ◌^◌, ◌<◌, ◌≤◌}
use native.Mathlib.Omega.{arith}
use lib.Dec.{ltb}
use lib.ListN.{length, take, drop}
use borrow.Author.Tests.{ltb-true, leb-true}
use Rattle.model.proofs.Tests.{and_left, and_right}
use Rattle.model.specs.Groups.{Process}
use Rattle.model.specs.Lists.{all_of}
use Rattle.model.specs.Tables.{written_places, byte_of, controls_of, states_of, transition_of, transition_fits, written_fit, value_fits}

-- the numbers up to 4 one by one
pub up_to_4 : (P : ℕ → Type 0) → P 0 → P 1 → P 2 → P 3 → P 4 → (n : ℕ) → n ≤ 4 → P n
up_to_4 P a b c d e zero h = a
up_to_4 P a b c d e (suc zero) h = b
up_to_4 P a b c d e (suc (suc zero)) h = c
up_to_4 P a b c d e (suc (suc (suc zero))) h = d
up_to_4 P a b c d e (suc (suc (suc (suc zero)))) h = e
up_to_4 P a b c d e (suc (suc (suc (suc (suc n))))) h = absurd (omega arith)

pub power_bound : (n : ℕ) → n ≤ 4 → (1 ≤ 2 ^ n) × (2 ^ n ≤ 16)
power_bound = up_to_4 (λ n. (1 ≤ 2 ^ n) × (2 ^ n ≤ 16)) (omega arith) (omega arith) (omega arith) (omega arith) (omega arith)

-- ---- rules and transitions that pass
both : (a b : Bool) → (a && b) ≡ true → (a ≡ true) × (b ≡ true)
both a b e = (and_left a b e, and_right a b e)

pub record FitRule (letters : ℕ) (body : List ℕ) : Type 0 where
  pub letter : byte_of body 0 < letters
  pub count : byte_of body 9 ≤ written_places
  pub written : all_of (λ a. ltb a letters) (take (byte_of body 9) (drop 10 body)) ≡ true

module _ (ps ls : List (List ℕ)) (body : List ℕ) where
  letter_of_lem : (bound : Process → ℕ) → transition_fits ls bound (transition_of body) ≡ true → byte_of body 0 < length ls
  unfolding transition_fits
  letter_of_lem bound e = ltb-true _ _ (both _ _ (both _ _ e).0).0

  pub transition_letter_lem : value_fits ps ls 4 body ≡ true → byte_of body 0 < length ls
  unfolding value_fits
  transition_letter_lem e = letter_of_lem (states_of ps) e

  pub fit_rule : value_fits ps ls 3 body ≡ true → FitRule (length ls) body
  unfolding value_fits written_fit
  fit_rule e =
      let a = both _ _ e in
      let b = both _ _ (both _ _ a.1).0 in
      record { letter = letter_of_lem (controls_of ps) a.0; count = leb-true _ _ b.0; written = b.1 }
