-- The steps of a walk, rule after rule, and who took part in them.
use Rattle.walk.proofs.Going.{Going}
use Rattle.walk.proofs.take_steps.Given as goal

abbrev pub invariant-loop-k : goal.invariant-loop-k
invariant-loop-k l = Going l.table.bytes.now l.table.counts l.list l.initial.pile l.initial.placed l.pile l.placed l.counts l.k
