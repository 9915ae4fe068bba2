-- The search may begin at the minute of the week (Skipping).
use mathlib.Core.Path.{ap, ◌∙◌}
use mir.Facts.{to_z-of_z}
use Rattle.plan_model.specs.Hours.{minute_of_week, week_of}
use Rattle.hours.specs.Searching.{step_by}
use Rattle.hours.proofs.Skipping.{minutes_told}
use Rattle.hours.proofs.Openings.delay_of.Goals as goal

pub returns : goal.returns
returns c =
    let s = c.args in
    minutes_told (week_of s.self.now.hours s.self.now.counts) (step_by s.step.bits s.step.length) s.bound c.minute_of_week.result c.unwrap_or.result c.wait_from.result
    (c.minute_of_week.ensures ∙ ap minute_of_week (to_z-of_z c.ranges.bound)) c.wait_from.ensures c.unwrap_or.ensures
