-- The second group of the body is that of the states after.
use mathlib.Core.Path.{◌∙◌}
use Rattle.table.proofs.accepted.Accepted.transition_after.Goals as goal

pub returns : goal.returns
returns c = c.group_at.ensures ∙ c.transition_body.ensures.2
