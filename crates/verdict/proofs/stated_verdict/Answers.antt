-- The verdict by what the search gave.
use mathlib.Core.Path.{ap, sym}
use Prim.Native.Nat.{ℕ}
use Rattle.std.specs.Prelude.{Option as Optional}
use Rattle.verdict.specs.Verdicts.{stated}
use Rattle.verdict.proofs.stated_verdict.Goals as goal

pub returns-in-None : goal.returns-in-None
unfolding stated
returns-in-None c = let a = c.args in sym (ap (λ (p : Optional ℕ). stated p a.transitions a.rounds) c.in-None.is)

pub returns-in-Some : goal.returns-in-Some
unfolding stated
returns-in-Some c = let a = c.args in sym (ap (λ (p : Optional ℕ). stated p a.transitions a.rounds) c.in-Some.is)
