-- The highest state of each process.
use Rattle.model.specs.Groups.{p0, p1, p2, p3}
use Rattle.restsets.proofs.groups.last_states.Goals as goal

pub last_state-requires : goal.last_state-requires
last_state-requires c = c.requires p0

pub last_state-requires-2 : goal.last_state-requires-2
last_state-requires-2 c = c.requires p1

pub last_state-requires-3 : goal.last_state-requires-3
last_state-requires-3 c = c.requires p2

pub last_state-requires-4 : goal.last_state-requires-4
last_state-requires-4 c = c.requires p3

pub returns : goal.returns
returns c = λ i. record { s0 = c.last_state.ensures i; s1 = c.last_state-2.ensures i; s2 = c.last_state-3.ensures i; s3 = c.last_state-4.ensures i }
