-- Whether the start's state is in the first set.
use mathlib.Core.Path.{ap, ap₂, ◌∙◌}
use mathlib.Core.List.{List}
use Prim.Native.Nat.{ℕ}
use Rattle.states.specs.StateNumbers.{state_number}
use Rattle.states.specs.StateSets.{member}
use Rattle.rests.specs.Rests.{processes_of_table, zeroed_group, own_number}
use Rattle.rests.proofs.Sets.{set_part}
use Rattle.start.proofs.is_accepted.Goals as goal

pub returns : goal.returns
unfolding own_number
returns c =
    let a = c.args in
    c.contains.ensures
    ∙ ap₂ (λ (l : List ℕ) (x : ℕ). member l x) (set_part a.scratch.now 0)
    (c.number.ensures.0 ∙ ap state_number (c.zeroed.ensures ∙ ap (zeroed_group (processes_of_table a.table.now.counts)) c.start_group-g.ensures))
