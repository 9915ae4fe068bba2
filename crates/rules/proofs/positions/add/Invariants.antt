-- The bytes of both sets are joined one after the other.
use Rattle.rules.specs.Regions.{BytesWritten}
use Rattle.rules.proofs.RegionLaws.{sum_byte}
use Rattle.rules.proofs.positions.add.Given as goal

abbrev pub invariant-loop-i : goal.invariant-loop-i
invariant-loop-i l = BytesWritten l.to (sum_byte l.initial.s l.from l.to) l.i l.initial.s l.s
