-- A group that is a single state, or any.
use Rattle.restsets.proofs.groups.add_group.Goals as goal

pub add_state-requires : goal.add_state-requires
add_state-requires c = (c.requires, c.is_single.ensures c.if-is_single.true)

pub returns-then-is_single : goal.returns-then-is_single
returns-then-is_single c = c.add_state.ensures

pub add_states-requires : goal.add_states-requires
add_states-requires c = c.requires

pub returns : goal.returns
returns c = c.add_states.ensures
