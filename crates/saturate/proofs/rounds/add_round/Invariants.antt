-- The records of round k are put into rings, the positions that write their letters made active, their keys indexed, and their heads added one after the
-- other (RoundSteps); then the round is told (RoundEnds).
use Prim.Native.Nat.{◌-◌}
use Rattle.saturate.proofs.RoundSteps.{HeadsAdded}
use Rattle.saturate.proofs.rounds.add_round.Given as goal

abbrev pub invariant-loop-round : goal.invariant-loop-round
invariant-loop-round l = HeadsAdded l.table.bytes.now l.table.counts l.round l.initial.log l.initial.scratch l.at.position l.at.count l.log l.scratch

abbrev pub decreases-loop-round : goal.decreases-loop-round
decreases-loop-round l = l.table.counts.rules - l.at.position
