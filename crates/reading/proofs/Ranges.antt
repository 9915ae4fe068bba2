-- Tests asked of the numbers of a range, as tests of a list by its indices.
use Rattle.std.proofs.Common.{◌≡◌, refl, ap, ap₂, ◌∙◌, ℕ, suc, ◌+◌, ◌<◌, Bool, ◌&&◌, List, [], ◌∷◌, length, get_or, arith}
use Rattle.std.specs.List.{range_with_len}
use Rattle.model.specs.Lists.{all_of}

module _ {A : Type 0} (test : A → Bool) (d : A) (f : ℕ → Bool) where
  pub all_range : (a : ℕ) (xs : List A) → ((k : ℕ) → k < length xs → f (a + k) ≡ test (get_or xs k d)) → all_of f (range_with_len a (length xs)) ≡ all_of test xs
  all_range a [] h = refl
  all_range a (x ∷ xs) h = ap₂ (λ (b c : Bool). b && c) (ap f (omega arith) ∙ h 0 (omega arith)) (all_range (a + 1) xs (λ k l. ap f (omega arith) ∙ h (suc k) (omega arith)))
