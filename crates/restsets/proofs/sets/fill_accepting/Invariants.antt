-- The set of the empty rest is cleared, and the accepting groups are put into it in turn.
use Rattle.restsets.proofs.LastSet.{Numbering}
use Rattle.restsets.proofs.sets.fill_accepting.Given as goal

abbrev pub invariant-loop-j : goal.invariant-loop-j
invariant-loop-j l = Numbering l.table.bytes.now l.table.counts l.at l.j l.initial.scratch l.scratch
