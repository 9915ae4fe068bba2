-- The bound and the delay after it are the begin, and it is within 64 bits.
use mathlib.Core.Path.{sym, subst, ◌∙◌}
use native.Mathlib.Omega.{arith}
use mir.Syntax.{w64}
use mir.Val.{SFits}
use Rattle.minutes.proofs.Signed.{read_back_lem}
use Rattle.plan_model.specs.Hours.{week_of}
use Rattle.hours.specs.Searching.{step_by}
use Rattle.plans.proofs.Minutes.{begin_read, begin_fits}
use Rattle.plans.proofs.begin_of.Goals as goal

pub after-requires : goal.after-requires
after-requires c =
    let a = c.args in
    let week = week_of a.openings.now.hours a.openings.now.counts in
    let s = step_by a.step.bits a.step.length in
    let bound-fits : SFits w64 c.bound_of-bound.result = record { sfits = c.bound_of-bound.type_inv } in
    let is = begin_read week a.start a.ends.now s c.bound_of-bound.result c.delay_of.result c.ranges.start bound-fits c.bound_of-bound.ensures c.delay_of.ensures.0 in
    (subst (SFits w64) (sym is) (begin_fits week a.start a.ends.now s c.requires (omega arith)), omega (arith, c.delay_of.ensures.1))

pub returns : goal.returns
returns c =
    let a = c.args in
    let bound-fits : SFits w64 c.bound_of-bound.result = record { sfits = c.bound_of-bound.type_inv } in
    read_back_lem (record { sfits = c.after.type_inv })
    ∙ c.after.ensures
    ∙ begin_read (week_of a.openings.now.hours a.openings.now.counts) a.start a.ends.now (step_by a.step.bits a.step.length) c.bound_of-bound.result c.delay_of.result c.ranges.start bound-fits c.bound_of-bound.ensures c.delay_of.ensures.0
