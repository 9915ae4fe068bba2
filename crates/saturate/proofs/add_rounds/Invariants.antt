-- Round after round, until one adds nothing or the log has no room (Saturating).
use Prim.Native.Nat.{◌-◌}
use Rattle.saturate.proofs.Saturating.{Saturating}
use Rattle.saturate.proofs.add_rounds.Given as goal

abbrev pub invariant-loop-count : goal.invariant-loop-count
invariant-loop-count l = Saturating l.table.bytes.now l.table.counts l.n l.initial.log l.initial.scratch l.log l.scratch l.lo l.base l.k

abbrev pub decreases-loop-count : goal.decreases-loop-count
decreases-loop-count l = l.n - l.base
