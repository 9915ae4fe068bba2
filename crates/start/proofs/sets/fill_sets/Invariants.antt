-- The sets from letter i on are right, and each is filled from the one behind it.
use Rattle.start.proofs.Backwards.{Backwards}
use Rattle.start.proofs.sets.fill_sets.Given as goal

abbrev pub invariant-loop-i : goal.invariant-loop-i
invariant-loop-i l = Backwards l.table.bytes.now l.table.counts l.log l.c l.initial.scratch l.i l.scratch
