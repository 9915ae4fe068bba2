-- The processes below i are raised (Turning).
use Rattle.std.proofs.Common.{◌+◌, max}
use Rattle.lengths.specs.Projections.{length_at}
use Rattle.lengths.proofs.Turning.{Turned}
use Rattle.lengths.proofs.raise.Given as goal

abbrev pub invariant-loop-i : goal.invariant-loop-i
invariant-loop-i l = Turned (λ p. max (length_at l.initial.h p + 1) (length_at l.l p)) l.initial.h l.h l.i
