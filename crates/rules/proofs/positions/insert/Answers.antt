-- The bit is the one set.
use Prim.Native.Nat.{◌%◌}
use native.Mathlib.Omega.{arith}
use Rattle.states.proofs.StateSets.{one_shifted}
use Rattle.rules.specs.Regions.{with_position}
use Rattle.rules.proofs.positions.insert.Goals as goal

pub returns : goal.returns
unfolding with_position
returns c = rw (one_shifted (c.args.p % 8) (omega arith))
