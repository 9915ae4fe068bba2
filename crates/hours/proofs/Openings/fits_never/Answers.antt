-- What the search from Monday 00:00 on tells is whether the step ever fits (Skipping).
use Rattle.plan_model.specs.Hours.{week_of}
use Rattle.hours.specs.Searching.{step_by}
use Rattle.hours.proofs.Skipping.{never_told}
use Rattle.hours.proofs.Openings.fits_never.Goals as goal

pub returns : goal.returns
returns c =
    let s = c.args in
    never_told (week_of s.self.now.hours s.self.now.counts) (step_by s.step.bits s.step.length) c.wait_from.result c.is_none.result c.wait_from.ensures c.is_none.ensures
