-- The steps so far are laid (Laying), and the minutes on the way are within 64 bits.
use mathlib.Core.Path.{◌≡◌, ap, ◌∙◌, subst}
use mathlib.Core.List.{◌++◌}
use Prim.Native.Nat.{◌<◌}
use lib.IntN.{ℤ}
use lib.ListN.{length, drop}
use native.Mathlib.Omega.{arith}
use Rattle.minutes.proofs.Signed.{read_back, read_back_lem}
use Rattle.model.specs.Groups.{processes_of}
use Rattle.plan_model.specs.Hours.{at_start, begins_from, ended_at, step_of, steps_of, week_of}
use Rattle.table.specs.Reading.{system_in}
use Rattle.hours.specs.Searching.{step_by}
use Rattle.plans.proofs.Checks.{rule_in_run, run_short}
use Rattle.plans.proofs.Laying.{laying_near, laying_turn, laying_end}
use Rattle.plans.proofs.Minutes.{end_fits}
use Rattle.plans.proofs.lay.Goals as goal

pub rule_step-step-requires : goal.rule_step-step-requires
rule_step-step-requires c =
    (c.requires.0, rule_in_run _ _ c.requires.1 c.loop-k.k c.from.result c.loop-k-test.true c.from.ensures)

pub begin_of-begin-requires : goal.begin_of-begin-requires
begin_of-begin-requires c = laying_near c.loop-k.invariant (run_short _ _ c.requires.1)

pub after-requires : goal.after-requires
after-requires c =
    let a = c.args in
    let step = c.rule_step-step.result in
    let near = laying_near c.loop-k.invariant (run_short _ _ c.requires.1) in
    let fits = end_fits (week_of a.openings.now.hours a.openings.now.counts) _ c.loop-k.ends (step_by step.bits step.length) near step.short (omega arith) in
    (rw (read_back_lem (record { sfits = c.begin_of-begin.type_inv }), c.begin_of-begin.ensures) fits, omega (arith, step.short))

pub loop-k-preserved : goal.loop-k-preserved
loop-k-preserved c =
    let loop = c.loop-k in
    let a = c.args in
    let step = c.rule_step-step.result in
    let inside : loop.k < length loop.begins = omega (arith, loop.invariant.size, c.requires.3, c.loop-k-test.true) in
    let End-read = read_back_lem (record { sfits = c.after.type_inv }) ∙ c.after.ensures in
    laying_turn loop.invariant c.loop-k-test.true inside
    (step_by step.bits step.length) (c.rule_step-step.ensures ∙ ap (step_of (system_in a.table.now.bytes.now) a.lengths.now) c.from.ensures) step.short
    (read_back c.begin_of-begin.result) c.end_at.new.ends (read_back_lem (record { sfits = c.begin_of-begin.type_inv }) ∙ c.begin_of-begin.ensures)
    (c.end_at.ensures ∙ ap (λ (t : ℤ). ended_at (processes_of step.bits) t loop.ends) End-read)

pub returns : goal.returns
returns c =
    let loop = c.loop-k in
    let a = c.args in
    subst (λ (z : ℤ). loop.begins ≡ begins_from (week_of a.openings.now.hours a.openings.now.counts) z (at_start z) (steps_of (system_in a.table.now.bytes.now) a.lengths.now a.run.now) ++ drop (length a.run.now) a.begins.now) (read_back_lem c.ranges.start)
    (laying_end loop.invariant c.loop-k-test.false)
