-- What is passed over for the windows of a process is passed over for the process (Skipping).
use mathlib.Core.Path.{sym, ap, ◌∙◌, subst}
use mathlib.Core.List.{List}
use Rattle.plan_model.specs.declared.Window.{Window}
use Rattle.plan_model.specs.Hours.{week_of, windows_of}
use Rattle.table.specs.Reading.{process_at}
use Rattle.table.proofs.Layouts.{number_at}
use Rattle.hours.specs.Searching.{Skips, step_by}
use Rattle.hours.proofs.Skipping.{part_passes}
use Rattle.hours.proofs.Openings.skip_process.Goals as goal

pub returns-then-has_process : goal.returns-then-has_process
returns-then-has_process c =
    let s = c.args in
    let o = s.self.now in
    part_passes (week_of o.hours o.counts) (process_at s.i) (step_by s.step.bits s.step.length) s.m c.skip_at.result
    (sym c.has_process.ensures.by_place ∙ c.if-has_process.true)
    (subst (λ (ws : List Window). Skips ws s.step.length s.m c.skip_at.result) (c.windows.ensures ∙ sym (ap (windows_of o.hours o.counts) (number_at s.i c.requires.0))) c.skip_at.ensures)
