-- The leaders from r on are chained (Chaining).
use Rattle.leaders.proofs.Chaining.{Chaining}
use Rattle.leaders.proofs.chain_leaders.Given as goal

abbrev pub invariant-loop-r : goal.invariant-loop-r
invariant-loop-r l = Chaining l.log l.letters l.count l.n l.initial.scratch l.scratch l.r
