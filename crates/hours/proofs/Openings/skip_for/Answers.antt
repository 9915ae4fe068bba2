-- All four processes stay open for the whole length (Skipping).
use Rattle.plan_model.specs.Hours.{week_of}
use Rattle.hours.specs.Searching.{step_by}
use Rattle.hours.proofs.Skipping.{open_below_end}
use Rattle.hours.proofs.Openings.skip_for.Goals as goal

pub returns : goal.returns
returns c =
    let s = c.args in
    open_below_end (week_of s.self.now.hours s.self.now.counts) (step_by s.step.bits s.step.length) s.m c.loop-i.i c.loop-i-test.false c.loop-i.invariant
