-- The number of the mixture is put into the set, where its set is within the table's processes.
use mathlib.Core.Path.{◌∙◌, ap, sym}
use Rattle.states.specs.StateNumbers.{state_number}
use Rattle.restsets.specs.Sets.{with_state}
use Rattle.rests.specs.Rests.{own_number, processes_of_table, zeroed_group}
use Rattle.restsets.proofs.sets.add_mixture.Goals as goal

pub returns-then-is_within : goal.returns-then-is_within
unfolding own_number
returns-then-is_within c =
    let a = c.args in
    rw (sym c.is_within.ensures ∙ c.if-is_within.true)
    (c.insert_state.ensures ∙ ap (with_state a.scratch.now a.at)
    (c.number.ensures.0 ∙ ap state_number (c.zeroed.ensures ∙ ap (zeroed_group (processes_of_table a.t)) c.mixture-g.ensures)))

pub returns-else-is_within : goal.returns-else-is_within
returns-else-is_within c = rw (sym c.is_within.ensures ∙ c.if-is_within.false)
