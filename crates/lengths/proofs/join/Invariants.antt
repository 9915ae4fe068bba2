-- The processes below i have the letter (Turning).
use Rattle.std.proofs.Common.{◌+◌}
use Rattle.model.specs.Groups.{bit, has, processes_of}
use Rattle.lengths.specs.Projections.{length_at}
use Rattle.lengths.proofs.Turning.{Turned}
use Rattle.lengths.proofs.join.Given as goal

abbrev pub invariant-loop-i : goal.invariant-loop-i
invariant-loop-i l = Turned (λ p. length_at l.initial.l p + bit (has (processes_of l.bits) p)) l.initial.l l.l l.i
