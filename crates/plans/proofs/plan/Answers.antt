-- A refused table is the call's answer, and an accepted one is planned with.
use mathlib.Core.Path.{sym, subst, ◌∙◌}
use lib.IntN.{ℤ}
use Rattle.std.proofs.lemmas.Result.{err_from_is_err_and}
use Rattle.plan_model.specs.Hours.{plan_call}
use Rattle.minutes.proofs.Signed.{read_back_lem}
use Rattle.table.proofs.Readings.{refused_reading}
use Rattle.plans.specs.Planning.{Plans}
use Rattle.plans.proofs.Outcomes.{plans_mean, table_refused}
use Rattle.plans.proofs.plan.Goals as goal

pub returns-in_err-table_counts : goal.returns-in_err-table_counts
returns-in_err-table_counts c =
    let a = c.args in
    let given = err_from_is_err_and c.from_residual.result c.from_residual.ensures.1 in
    let p = table_refused a.table.now a.run.now a.hours a.counts a.lengths.now a.start a.begins.now _ (refused_reading _ _ (sym c.read.ensures ∙ c.in_err-table_counts.was)) in
    rw (given.1, given.2) record { demand_1 = p; request_2_7 = plans_mean a.table.now a.run.now a.hours a.counts a.lengths.now a.start a.begins.now _ _ p }

pub invariant_of-accepted : goal.invariant_of-accepted
invariant_of-accepted c = record { holds = record { reading = sym c.read.ensures ∙ c.in_ok-table_counts.was } }

pub returns : goal.returns
returns c =
    let a = c.args in
    let p = subst (λ (z : ℤ). Plans (plan_call a.table.now a.run.now a.hours a.counts a.lengths.now z a.begins.now) c.plan_accepted.result c.plan_accepted.new.begins) (read_back_lem c.ranges.start) c.plan_accepted.ensures in
    record { demand_1 = p; request_2_7 = plans_mean a.table.now a.run.now a.hours a.counts a.lengths.now a.start a.begins.now _ _ p }
