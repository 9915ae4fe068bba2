-- The letters passed over are other ones and apart; one that is neither ends the search (Scans).
use Rattle.table.specs.Reading.{system_in}
use Rattle.firing.proofs.Scans.{Finding}
use Rattle.firing.proofs.find.Given as goal

abbrev pub invariant-loop-p : goal.invariant-loop-p
invariant-loop-p l = Finding (system_in l.table.bytes.now).loc l.a l.pile l.top l.p
