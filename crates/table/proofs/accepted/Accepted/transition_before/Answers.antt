-- The first group of the body is that of the states before.
use mathlib.Core.Path.{◌∙◌}
use Rattle.table.proofs.accepted.Accepted.transition_before.Goals as goal

pub returns : goal.returns
returns c = c.group_at.ensures ∙ c.transition_body.ensures.1
