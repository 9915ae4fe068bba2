-- The minutes passed over do not fit; the first that is not passed over does (Skipping).
use native.Mathlib.Omega.{arith}
use Rattle.plan_model.specs.Hours.{week_of}
use Rattle.hours.specs.Searching.{step_by}
use Rattle.hours.proofs.Skipping.{missed_all, missed_found, missed_turn}
use Rattle.hours.proofs.Openings.wait_from.Goals as goal

pub returns-then-minutes-eq0 : goal.returns-then-minutes-eq0
returns-then-minutes-eq0 c =
    let s = c.args in
    missed_found (week_of s.self.now.hours s.self.now.counts) (step_by s.step.bits s.step.length) s.m c.loop-d.d (omega arith) c.loop-d.invariant (rw c.if-minutes-eq0.true at c.skip_for-minutes.ensures)

pub loop-d-preserved : goal.loop-d-preserved
loop-d-preserved c =
    let s = c.args in
    missed_turn (week_of s.self.now.hours s.self.now.counts) (step_by s.step.bits s.step.length) s.m c.loop-d.d c.skip_for-minutes.result c.loop-d.invariant c.skip_for-minutes.ensures

pub returns : goal.returns
returns c =
    let s = c.args in
    missed_all (week_of s.self.now.hours s.self.now.counts) (step_by s.step.bits s.step.length) s.m c.loop-d.d (omega arith) c.loop-d.invariant
