-- The steps of the records in turn, the lowest number of the stack first.
use Prim.Native.Nat.{◌-◌}
use Rattle.start.proofs.Steps.{Summed}
use Rattle.start.proofs.paths.path_steps.Given as goal

abbrev pub invariant-loop-k : goal.invariant-loop-k
invariant-loop-k l = Summed l.log l.scratch l.size l.k l.steps
