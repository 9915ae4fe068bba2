-- The bit of the state's number in the set's bytes.
use mathlib.Core.Path.{◌≡◌, ap, ap₂, ◌∙◌}
use mathlib.Core.List.{List}
use Prim.Native.Nat.{ℕ, ◌+◌, ◌-◌}
use native.Mathlib.Omega.{arith}
use lib.ListN.{take, drop}
use Rattle.states.specs.StateSets.{member, set_length}
use Rattle.rests.specs.Rests.{set_at}
use Rattle.attempts.proofs.is_in.Goals as goal

pub returns : goal.returns
unfolding set_at
returns c =
    let a = c.args in
    let size : a.goal + set_length - a.goal ≡ set_length = omega arith in
    c.contains.ensures ∙ ap₂ (λ (l : List ℕ) (n : ℕ). member l n) (ap (λ (k : ℕ). take k (drop a.goal a.scratch.now)) size) c.number.ensures.0
