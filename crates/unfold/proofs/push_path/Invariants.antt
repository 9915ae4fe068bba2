-- The places from the last to the first are pushed one after the other (Pushing).
use Rattle.unfold.proofs.Pushing.{Pushing}
use Rattle.unfold.proofs.push_path.Given as goal

abbrev pub invariant-loop-j : goal.invariant-loop-j
invariant-loop-j l = Pushing l.log l.initial.scratch l.top l.x l.n l.j l.scratch l.height
