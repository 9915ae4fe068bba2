-- One record after the other is appended, and the rings of all below it are kept (Appending).
use Rattle.rings.proofs.Appending.{Appending}
use Rattle.rings.proofs.append.Given as goal

abbrev pub invariant-loop-r : goal.invariant-loop-r
invariant-loop-r l = Appending l.log l.n l.at l.from l.r l.initial.scratch l.scratch
