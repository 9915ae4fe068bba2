-- No byte of it is set.
use mathlib.Core.Path.{refl}
use Rattle.desk.proofs.no_desk.Goals as goal

pub returns : goal.returns
returns c = rw c.empty.ensures refl
