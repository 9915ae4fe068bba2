-- The processes below i have their change (Turning).
use Rattle.std.proofs.Common.{◌+◌}
use Rattle.lengths.specs.Projections.{length_at, noted}
use Rattle.lengths.proofs.Turning.{Turned}
use Rattle.lengths.proofs.add_change.Given as goal

abbrev pub invariant-loop-i : goal.invariant-loop-i
invariant-loop-i l = Turned (λ p. length_at l.initial.l p + noted l.changes l.k p) l.initial.l l.l l.i
