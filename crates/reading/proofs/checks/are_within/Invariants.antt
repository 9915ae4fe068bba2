-- The letters so far stay within the set (Scans).
use Rattle.table.proofs.Scans.{Tested}
use Rattle.reading.proofs.Values.{within}
use Rattle.reading.proofs.checks.are_within.Given as goal

abbrev pub invariant-loop-a : goal.invariant-loop-a
invariant-loop-a l = Tested (within l.bytes l.t l.outer) l.written l.a-index
