-- Laws of the steps of the records on the stack.
use mathlib.Core.Path.{◌≡◌, ap, sym, subst, ◌∙◌}
use mathlib.Core.List.{List}
use Prim.Native.Nat.{ℕ, zero, suc, ◌+◌, ◌*◌, ◌^◌, ◌<◌, ◌≤◌, min}
use native.Mathlib.Decide.{ℕ_discrete}
use native.Mathlib.Nat.{not-suc-le-zero}
use native.Mathlib.Numerals.{add-one}
use native.Mathlib.Omega.{arith}
use Rattle.model.specs.Lists.{Each, sum_over}
use Rattle.model.specs.Log.{steps_cap}
use Rattle.model.specs.Records.{number_at, record_length, steps_at}
use Rattle.model.specs.Tables.{written_places}
use Rattle.numbers.proofs.NumberBytes.{AllBytes, number_less}
use Rattle.scratch.specs.StackNumbers.{stack_place, numbers_down, stack_of}

-- a number on the stack
pub each_down : (P : ℕ → Type 0) (s : List ℕ) (size k : ℕ) → k < size → Each P (stack_of s size) → P (number_at 2 s (stack_place k))
unfolding numbers_down
each_down P s zero k h e = absurd (not-suc-le-zero h)
each_down P s (suc size) k h e = elim (ℕ_discrete k size) [
  | yes is ↦ subst (λ (j : ℕ). P (number_at 2 s (stack_place j))) (sym is) e.0
  | no ne ↦ each_down P s size k (omega arith) e.1
]

-- steps have three bytes
pub steps_less : (log : List ℕ) (r : ℕ) → AllBytes log → steps_at log r < 2 ^ 24
unfolding steps_at
steps_less log r bytes = number_less 3 log (r * record_length + (13 + 2 * written_places)) bytes

-- the loop: the steps of the lowest k numbers
pub record Summed (log s : List ℕ) (size k steps : ℕ) : Type 0 where
  pub few : k ≤ size
  pub sum : steps ≡ min (sum_over (steps_at log) (stack_of s k)) steps_cap

pub summed_start : {log s : List ℕ} {size : ℕ} → Summed log s size 0 0
unfolding numbers_down
summed_start = record { few = omega arith; sum = omega arith }

pub summed_turn : {log s : List ℕ} {size k steps r b next : ℕ} → k < size → Summed log s size k steps → r ≡ number_at 2 s (stack_place k) → b ≡ steps_at log r → next ≡ min (steps + b) steps_cap
    → Summed log s size (k + 1) next
unfolding numbers_down
summed_turn {log} {s} {size} {k} {steps} h w is e n =
    let rest : ℕ = sum_over (steps_at log) (stack_of s k) in
    let first : ℕ = steps_at log (number_at 2 s (stack_place k)) in
    let more : sum_over (steps_at log) (stack_of s (k + 1)) ≡ first + rest = ap (λ (j : ℕ). sum_over (steps_at log) (stack_of s j)) (add-one k) in
    let b-is = e ∙ ap (steps_at log) is in
    record { few = omega arith; sum = n ∙ omega (arith, w.sum, b-is, more) }

pub summed_end : {log s : List ℕ} {size k steps : ℕ} → size ≤ k → Summed log s size k steps → steps ≡ min (sum_over (steps_at log) (stack_of s size)) steps_cap
summed_end {log} {s} {size} {k} h w = let e : k ≡ size = omega (arith, w.few) in w.sum ∙ ap (λ (j : ℕ). min (sum_over (steps_at log) (stack_of s j)) steps_cap) e
