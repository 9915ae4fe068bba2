-- The processes that were looked at stay open for the whole length (Skipping).
use Rattle.plan_model.specs.Hours.{week_of}
use Rattle.hours.specs.Searching.{step_by}
use Rattle.hours.proofs.Skipping.{OpenBelow}
use Rattle.hours.proofs.Openings.skip_for.Given as goal

abbrev pub invariant-loop-i : goal.invariant-loop-i
invariant-loop-i l = OpenBelow (week_of l.self.hours l.self.counts) (step_by l.step.bits l.step.length) l.m l.i
