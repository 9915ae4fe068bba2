-- Turn after turn, until one ends it (Attempting). The tries left, 65 times, and the place fall together: a try takes one off the tries and goes on by one place at most,
-- a step back takes one off the place.
use Rattle.attempts.specs.Turns.{weight}
use Rattle.attempts.proofs.Attempting.{Attempting}
use Rattle.attempts.proofs.attempt.Given as goal

abbrev pub invariant-loop-y : goal.invariant-loop-y
invariant-loop-y l = Attempting l.table.bytes.now l.table.counts l.log l.c l.span l.state l.initial.scratch l.scratch l.x

abbrev pub decreases-loop-y : goal.decreases-loop-y
decreases-loop-y l = weight l.x
