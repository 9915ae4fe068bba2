-- The greater of two, three times.

use Rattle.model.specs.Groups.{greatest}
use Rattle.lengths.proofs.highest.Goals as goal

pub returns : goal.returns
unfolding greatest
returns c = cc
