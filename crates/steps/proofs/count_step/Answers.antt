-- The processes below i are counted, the counts of the others are as they were.
use Rattle.std.proofs.Common.{◌≡◌, List, [], ◌∷◌, ℕ, ◌<◌, length, refl, arith}
use Rattle.model.specs.Groups.{Process, at_each, number_of, p0, p1, p2, p3}
use Rattle.model.specs.Participation.{count_of, with_step}
use Rattle.steps.proofs.count_step.Goals as goal

-- four counts by their processes
four : (f : Process → ℕ) (l : List ℕ) → length l ≡ 4 → ((p : Process) → count_of l p ≡ f p) → l ≡ at_each f
four f (a ∷ b ∷ c ∷ d ∷ []) e h = rw (h p0, h p1, h p2, h p3) refl
four f [] e h = absurd (omega arith)
four f (a ∷ []) e h = absurd (omega arith)
four f (a ∷ b ∷ []) e h = absurd (omega arith)
four f (a ∷ b ∷ c ∷ []) e h = absurd (omega arith)
four f (a ∷ b ∷ c ∷ d ∷ x ∷ l) e h = absurd (omega arith)

pub returns : goal.returns
unfolding with_step
returns c = four _ _ c.loop-i.invariant.size (λ p. c.loop-i.invariant.below p (small p))
  where
    small : (p : Process) → number_of p < c.loop-i.i
    small p0 = omega (arith, c.loop-i-test.false)
    small p1 = omega (arith, c.loop-i-test.false)
    small p2 = omega (arith, c.loop-i-test.false)
    small p3 = omega (arith, c.loop-i-test.false)
