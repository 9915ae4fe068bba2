-- The bytes of both sets are joined one after the other.
use native.Mathlib.Omega.{arith}
use Rattle.rules.proofs.RegionLaws.{bytes_all, set_added}
use Rattle.rules.proofs.positions.add.Goals as goal

pub returns : goal.returns
returns c = set_added (bytes_all (omega arith) c.loop-i-test.false c.loop-i.invariant)
