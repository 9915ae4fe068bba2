-- What the checks and the passes found is what the call gives and leaves (Outcomes).
use mathlib.Core.Path.{sym, ◌∙◌}
use lib.ListN.{length}
use Rattle.minutes.proofs.Signed.{read_back}
use Rattle.table.proofs.Layouts.{table_modest}
use Rattle.plans.proofs.Outcomes.{bad_hours, fit_parts, laid, never_open, answered_some, answered_none}
use Rattle.plans.proofs.plan_accepted.Goals as goal

pub returns-then-not-plan_fits : goal.returns-then-not-plan_fits
returns-then-not-plan_fits c =
    let a = c.args in
    bad_hours a.table.now.bytes.now a.run.now a.hours.now a.counts.now a.lengths.now a.start a.begins.now a.table.now.counts a.table.now.holds c.ranges.start (sym c.plan_fits.ensures ∙ c.if-not-plan_fits.true)

pub plan_fits-requires : goal.plan_fits-requires
plan_fits-requires c = (table_modest _ _ c.args.table.now.holds).processes

pub first_never-requires : goal.first_never-requires
first_never-requires c =
    let a = c.args in
    let parts = fit_parts a.table.now.counts.processes a.table.now.counts.rules a.run.now a.hours.now a.counts.now a.lengths.now (read_back a.start) (length a.begins.now) (sym c.plan_fits.ensures ∙ c.if-not-plan_fits.false) in
    (parts.lengths_checked, parts.run_fits)

pub returns-in-Some : goal.returns-in-Some
returns-in-Some c =
    let seen = rw (c.new-openings.ensures.0, c.new-openings.ensures.1) at c.first_never.ensures in
    let a = c.args in
    never_open a.table.now.bytes.now a.run.now a.hours.now a.counts.now a.lengths.now a.start a.begins.now a.table.now.counts a.table.now.holds c.ranges.start (sym c.plan_fits.ensures ∙ c.if-not-plan_fits.false) c.in-Some.k
    (answered_some _ _ (sym c.in-Some.is ∙ seen))

pub lay-requires : goal.lay-requires
lay-requires c =
    let a = c.args in
    let parts = fit_parts a.table.now.counts.processes a.table.now.counts.rules a.run.now a.hours.now a.counts.now a.lengths.now (read_back a.start) (length a.begins.now) (sym c.plan_fits.ensures ∙ c.if-not-plan_fits.false) in
    (parts.lengths_checked, parts.run_fits, parts.start_fits, parts.enough)

pub returns-in-None : goal.returns-in-None
returns-in-None c =
    let seen = rw (c.new-openings.ensures.0, c.new-openings.ensures.1) at c.first_never.ensures in
    let a = c.args in
    laid a.table.now.bytes.now a.run.now a.hours.now a.counts.now a.lengths.now a.start a.begins.now a.table.now.counts a.table.now.holds c.ranges.start (sym c.plan_fits.ensures ∙ c.if-not-plan_fits.false) c.lay.new.begins
    (answered_none _ (sym c.in-None.is ∙ seen)) (rw (c.new-openings.ensures.0, c.new-openings.ensures.1) at c.lay.ensures)
