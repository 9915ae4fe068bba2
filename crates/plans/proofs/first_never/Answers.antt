-- The first step that fits no minute is the first from the next step on, and the noted rules fit some (Checks).
use mathlib.Core.Path.{refl, sym, ap, ◌∙◌}
use Rattle.plan_model.specs.Hours.{week_of}
use Rattle.table.specs.Reading.{system_in}
use Rattle.hours.specs.Searching.{answered}
use Rattle.plans.proofs.Checks.{judged_none, never_here, never_later, never_over, rule_in_run}
use Rattle.plans.proofs.first_never.Goals as goal

pub loop-k-init : goal.loop-k-init
loop-k-init c = (refl, judged_none _ _ _ 200)

pub judge-requires : goal.judge-requires
judge-requires c =
    let loop = c.loop-k in
    (c.requires.0, rule_in_run _ _ c.requires.1 loop.k c.from-n.result c.loop-k-test.true c.from-n.ensures, loop.invariant.1)

pub returns-then-judge : goal.returns-then-judge
returns-then-judge c =
    let loop = c.loop-k in
    let a = c.args in
    let here = never_here (week_of a.openings.now.hours a.openings.now.counts) (system_in a.table.now.bytes.now) a.lengths.now a.run.now loop.k c.from-n.result c.from-n.ensures c.loop-k-test.true in
    sym (ap answered (loop.invariant.0 ∙ here (sym c.judge.ensures.0 ∙ c.if-judge.true)))

pub loop-k-preserved : goal.loop-k-preserved
loop-k-preserved c =
    let loop = c.loop-k in
    let a = c.args in
    let later = never_later (week_of a.openings.now.hours a.openings.now.counts) (system_in a.table.now.bytes.now) a.lengths.now a.run.now loop.k c.from-n.result c.from-n.ensures c.loop-k-test.true in
    (loop.invariant.0 ∙ later (sym c.judge.ensures.0 ∙ c.if-judge.false), c.judge.ensures.1)

pub returns : goal.returns
returns c =
    let a = c.args in
    sym (ap answered (c.loop-k.invariant.0 ∙ never_over (week_of a.openings.now.hours a.openings.now.counts) (system_in a.table.now.bytes.now) a.lengths.now a.run.now c.loop-k.k c.loop-k-test.false))
