-- None of the minutes that were passed over fits (Skipping). Each turn passes over more of them.
use Prim.Native.Nat.{◌-◌}
use Rattle.plan_model.specs.Hours.{week_minutes, week_of}
use Rattle.hours.specs.Searching.{step_by}
use Rattle.hours.proofs.Skipping.{Missed}
use Rattle.hours.proofs.Openings.wait_from.Given as goal

abbrev pub invariant-loop-d : goal.invariant-loop-d
invariant-loop-d l = Missed (week_of l.self.hours l.self.counts) (step_by l.step.bits l.step.length) l.m l.d

abbrev pub decreases-loop-d : goal.decreases-loop-d
decreases-loop-d l = week_minutes - l.d
