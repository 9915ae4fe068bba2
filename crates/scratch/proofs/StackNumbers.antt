-- Laws of the stack of record numbers.
use mathlib.Core.Path.{◌≡◌, refl, ap, ap₂, ◌∙◌}
use mathlib.Core.Logic.{inl, inr}
use mathlib.Core.List.{List, [], ◌∷◌, ◌++◌}
use Prim.Native.Nat.{ℕ, zero, suc, ◌+◌, ◌-◌, ◌*◌, ◌<◌, ◌≤◌}
use native.Mathlib.Numerals.{add-one}
use native.Mathlib.Omega.{arith}
use lib.ListN.{length, get_or}
use Rattle.model.specs.Records.{number_at}
use Rattle.numbers.specs.NumberBytes.{with_number}
use Rattle.numbers.proofs.NumberBytes.{number_kept, number_same, number_written}
use Rattle.scratch.specs.Regions.{stack_at}
use Rattle.scratch.specs.StackNumbers.{stack_place, numbers_down, stack_of}

pub length_down : (s : List ℕ) (at k : ℕ) → length (numbers_down s at k) ≡ k
unfolding numbers_down
length_down s at zero = refl
length_down s at (suc k) = ap suc (length_down s at k)

-- numbers with the same bytes are the same
pub down_same : (s t : List ℕ) (at k : ℕ) → ((i : ℕ) → at ≤ i → i < at + 2 * k → get_or t i 0 ≡ get_or s i 0) → numbers_down t at k ≡ numbers_down s at k
unfolding numbers_down
down_same s t at zero h = refl
down_same s t at (suc k) h = ap₂ (λ (x : ℕ) (l : List ℕ). x ∷ l)
    (number_same 2 s t (at + 2 * k) (λ m p q. h m (omega arith) (omega arith)))
    (down_same s t at k (λ i p q. h i p (omega arith)))

-- a number written above them
pub down_above : (s : List ℕ) (at k j x : ℕ) → at + 2 * k ≤ j → numbers_down (with_number 2 s j x) at k ≡ numbers_down s at k
unfolding numbers_down
down_above s at zero j x h = refl
down_above s at (suc k) j x h = ap₂ (λ (y : ℕ) (l : List ℕ). y ∷ l) (number_kept 2 2 s j x (at + 2 * k) (inl (omega arith))) (down_above s at k j x (omega arith))

-- a number written below them
down_below : (s : List ℕ) (at k j x : ℕ) → j + 2 ≤ at → numbers_down (with_number 2 s j x) at k ≡ numbers_down s at k
unfolding numbers_down
down_below s at zero j x h = refl
down_below s at (suc k) j x h = ap₂ (λ (y : ℕ) (l : List ℕ). y ∷ l) (number_kept 2 2 s j x (at + 2 * k) (inr (omega arith))) (down_below s at k j x h)

-- the lowest number comes last
pub down_last : (s : List ℕ) (at k : ℕ) → numbers_down s at (suc k) ≡ numbers_down s (at + 2) k ++ (number_at 2 s at ∷ [])
unfolding numbers_down
down_last s at zero = ap (λ (i : ℕ). number_at 2 s i ∷ []) (omega arith)
down_last s at (suc k) = ap₂ (λ (i : ℕ) (l : List ℕ). number_at 2 s i ∷ l) (omega arith) (down_last s at k)

-- one number more below them
pub down_more : (s : List ℕ) (at k x : ℕ) → at + 2 ≤ length s → x < 65536 → numbers_down (with_number 2 s at x) at (suc k) ≡ numbers_down s (at + 2) k ++ (x ∷ [])
down_more s at k x h f =
    down_last (with_number 2 s at x) at k
    ∙ ap₂ (λ (l : List ℕ) (y : ℕ). l ++ (y ∷ [])) (down_below s (at + 2) k at x (omega arith)) (number_written 2 s at x h f)

-- ---- the stack
-- the top, and what is below it
pub stack_top : (s : List ℕ) (top : ℕ) → 0 < top → stack_of s top ≡ number_at 2 s (stack_place (top - 1)) ∷ stack_of s (top - 1)
unfolding numbers_down
stack_top s top h = let e : top ≡ suc (top - 1) = omega arith in ap (λ (k : ℕ). stack_of s k) e

-- a number put on top
pub stack_push : (s : List ℕ) (top x : ℕ) → stack_place top + 2 ≤ length s → x < 65536 → stack_of (with_number 2 s (stack_place top) x) (top + 1) ≡ x ∷ stack_of s top
unfolding numbers_down
stack_push s top x h f = rw add-one (ap₂ (λ (y : ℕ) (l : List ℕ). y ∷ l) (number_written 2 s (stack_place top) x h f) (down_above s stack_at top (stack_place top) x (omega arith)))
