-- The bit is the one tested.
use mathlib.Core.Path.{sym}
use Rattle.rules.proofs.RegionLaws.{in_byte}
use Rattle.rules.proofs.positions.contains.Goals as goal

pub returns : goal.returns
returns c = let a = c.args in sym (in_byte a.s.now a.at a.p)
