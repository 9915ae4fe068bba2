-- Whether a record leads into a set, by the number of its target.
use mathlib.Core.Path.{ap, ap₂, ◌∙◌}
use mathlib.Core.List.{List}
use Prim.Native.Nat.{ℕ}
use Rattle.model.specs.declared.Group.{Group}
use Rattle.model.specs.Groups.{processes_of, merge}
use Rattle.states.specs.StateNumbers.{state_number}
use Rattle.states.specs.StateSets.{member}
use Rattle.rests.proofs.Sets.{set_part}
use Rattle.start.proofs.paths.enters.Goals as goal

pub returns : goal.returns
returns c =
    let a = c.args in
    c.contains.ensures
    ∙ ap₂ (λ (l : List ℕ) (x : ℕ). member l x) (set_part a.scratch.now a.at)
    (c.number-x.ensures.0 ∙ ap state_number (c.merged.ensures ∙ ap (λ (h : Group). merge (processes_of a.bits) h a.g) c.after_at-after.ensures))
