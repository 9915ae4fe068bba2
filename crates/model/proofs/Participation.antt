-- Request 2.5: the counts after one step more.
use mathlib.Core.Path.{◌≡◌, ap, sym, ◌∙◌}
use mathlib.Core.List.{List, [], ◌∷◌, ◌++◌, map}
use Prim.Native.Nat.{ℕ, ◌+◌, ◌≤◌, min}
use native.Mathlib.Omega.{arith}
use lib.ListN.{length, length-append}
use Rattle.model.specs.Groups.{Process, at_each, bit, has, p0, p1, p2, p3}
use Rattle.model.specs.Systems.{System}
use Rattle.model.specs.Participation.{rule_processes, step_counts, steps_with, with_step}
use Rattle.model.proofs.Groups.{bit_low}
use Rattle.model.proofs.Lists.{sum_snoc}

-- lists with a number for each process
each_same : (f g : Process → ℕ) → ((i : Process) → f i ≡ g i) → at_each f ≡ at_each g
each_same f g e = λ i. e p0 i ∷ e p1 i ∷ e p2 i ∷ e p3 i ∷ []

module _ (ceiling : ℕ) (sys : System) where
  pub counts_snoc : (ns : List ℕ) (n : ℕ) → with_step ceiling (rule_processes sys n) (map (min ceiling) (step_counts sys ns)) ≡ map (min ceiling) (step_counts sys (ns ++ (n ∷ [])))
  unfolding with_step
  counts_snoc ns n =
      each_same (λ i. min ceiling (min ceiling (steps_with sys i ns) + bit (has (rule_processes sys n) i))) (λ i. min ceiling (steps_with sys i (ns ++ (n ∷ [])))) one_more
    where
      one_more : (i : Process) → min ceiling (min ceiling (steps_with sys i ns) + bit (has (rule_processes sys n) i)) ≡ min ceiling (steps_with sys i (ns ++ (n ∷ [])))
      one_more i = omega (arith, sum_snoc (λ m. bit (has (rule_processes sys m) i)) ns n)

  -- a list no longer than the ceiling does not reach it
  steps_low : (i : Process) (ns : List ℕ) → steps_with sys i ns ≤ length ns
  steps_low i [] = omega arith
  steps_low i (n ∷ ns) = let below : steps_with sys i ns ≤ length ns = steps_low i ns in omega (arith, bit_low (has (rule_processes sys n) i))

  counts_low : (ns : List ℕ) → length ns ≤ ceiling → map (min ceiling) (step_counts sys ns) ≡ step_counts sys ns
  counts_low ns h = each_same (λ i. min ceiling (steps_with sys i ns)) (λ i. steps_with sys i ns) (λ i. omega (arith, steps_low i ns))

  pub counts_below : (ns : List ℕ) (n : ℕ) → length (ns ++ (n ∷ [])) ≤ ceiling → with_step ceiling (rule_processes sys n) (step_counts sys ns) ≡ step_counts sys (ns ++ (n ∷ []))
  counts_below ns n h =
      ap (with_step ceiling (rule_processes sys n)) (sym (counts_low ns (omega (arith, length-append ns (n ∷ []))))) ∙ counts_snoc ns n ∙ counts_low (ns ++ (n ∷ [])) h
