-- The processes below i are counted where they are not in the set (Turning).
use Rattle.std.proofs.Common.{◌-◌}
use Rattle.model.specs.Groups.{bit, has, processes_of}
use Rattle.lengths.proofs.Turning.{Turned}
use Rattle.lengths.proofs.rest.Given as goal

abbrev pub invariant-loop-i : goal.invariant-loop-i
invariant-loop-i l = Turned (λ p. 1 - bit (has (processes_of l.bits) p)) l.initial.l l.l l.i
