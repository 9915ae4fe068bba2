-- A state is put into a set.
use mathlib.Core.Path.{ap, ◌∙◌}
use mathlib.Core.List.{List}
use Prim.Native.Nat.{ℕ}
use Rattle.states.specs.StateSets.{inserted}
use Rattle.restsets.specs.Sets.{with_set, with_state}
use Rattle.rests.proofs.Sets.{set_part}
use Rattle.restsets.proofs.ScratchRegions.{set_back}
use Rattle.restsets.proofs.sets.insert_state.Goals as goal

pub returns : goal.returns
unfolding with_state
returns c =
    let a = c.args in
    let s = a.scratch.now in
    set_back s a.at c.insert.new.members
    ∙ ap (λ (l : List ℕ). with_set s a.at l) (c.insert.ensures ∙ ap (λ (l : List ℕ). inserted l a.x) (set_part s a.at))
