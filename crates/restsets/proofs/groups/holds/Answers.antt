-- Whether a state is in a set, which is lent.
use mathlib.Core.Path.{ap, ◌∙◌}
use mathlib.Core.List.{List}
use Prim.Native.Nat.{ℕ}
use Rattle.states.specs.StateSets.{member}
use Rattle.rests.proofs.Sets.{set_part}
use Rattle.restsets.proofs.groups.holds.Goals as goal

pub returns : goal.returns
returns c =
    let a = c.args in
    c.contains.ensures ∙ ap (λ (l : List ℕ). member l a.x) (set_part a.scratch.now a.at)
