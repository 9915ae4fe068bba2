-- Each outcome of the firing is the refusal, or the step, that the model has for it (Stepping); only a step that is taken is counted.
use mathlib.Core.Path.{refl}
use Rattle.steps.proofs.Stepping.{step_none, step_idle, step_full, step_done}
use Rattle.steps.proofs.take_step.Goals as goal

pub returns-then-table-n : goal.returns-then-table-n
returns-then-table-n c = (step_none _ _ c.args.table.now.holds _ _ _ c.if-table-n.true, refl)

pub returns-in-Ok : goal.returns-in-Ok
returns-in-Ok c = (step_done _ _ c.args.table.now.holds _ _ _ c.if-table-n.false _ _ c.requires c.in-Ok.ensures, c.count_step.ensures)

pub returns-in-Err-Idle : goal.returns-in-Err-Idle
returns-in-Err-Idle c = (step_idle _ _ c.args.table.now.holds _ _ _ c.if-table-n.false _ (rw c.in-Err-Idle.field-0-is at c.in-Err-Idle.ensures), refl)

pub returns-in-Err-Full : goal.returns-in-Err-Full
returns-in-Err-Full c = (step_full _ _ c.args.table.now.holds _ _ _ c.if-table-n.false _ (rw c.in-Err-Full.field-0-is at c.in-Err-Full.ensures), refl)
