-- The own number of a packed group.
use mathlib.Core.Path.{ap, ◌∙◌}
use Rattle.packs.specs.Packs.{packed_number}
use Rattle.restsets.proofs.groups.own_number.Goals as goal

pub returns : goal.returns
returns c = (c.number.ensures.0 ∙ ap packed_number c.merged.ensures, c.number.ensures.1)
