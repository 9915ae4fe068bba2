-- The places before the first that has none are counted (Pushing).
use Rattle.unfold.proofs.Pushing.{Measuring}
use Rattle.unfold.proofs.path_length.Given as goal

abbrev pub invariant-loop-n : goal.invariant-loop-n
invariant-loop-n l = Measuring l.log l.x l.n
