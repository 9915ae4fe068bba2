-- The words of a row in turn.
use Rattle.wordsets.proofs.WordSets.{Adding}
use Rattle.wordsets.proofs.add_row.Given as goal

abbrev pub invariant-loop-w : goal.invariant-loop-w
invariant-loop-w l = Adding l.from l.to l.y l.x l.rest l.low l.w l.initial.s l.s l.common
