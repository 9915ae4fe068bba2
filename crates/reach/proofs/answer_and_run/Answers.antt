-- Both calls: their table is refused, or accepted, answered and given a run.
use mathlib.Core.Path.{◌∙◌, sym}
use Rattle.reach.proofs.Answering.{both_demands, table_refused}
use Rattle.reach.proofs.answer_and_run.Goals as goal

pub returns-in-Err : goal.returns-in-Err
returns-in-Err c =
    let a = c.args in
    let both = table_refused a.table.now a.log.now a.scratch.now c.in-Err.refusal (sym c.read.ensures ∙ c.in-Err.is) in
    let d = both_demands a.table.now a.log.now a.scratch.now a.page.now both.answer (both.run a.page.now) in
    rw (c.refused.ensures.0, c.refused.ensures.1) record { answer = d.0; run = d.1.0; demand_2 = d.1.1.0; demand_3 = d.1.1.1 }

pub invariant_of-accepted : goal.invariant_of-accepted
invariant_of-accepted c = record { holds = record { reading = sym c.read.ensures ∙ c.in-Ok.is } }

pub returns-in-Ok : goal.returns-in-Ok
returns-in-Ok c =
    let a = c.args in
    let d = both_demands a.table.now a.log.now a.scratch.now a.page.now c.answer_and_run_table.ensures.answer c.answer_and_run_table.ensures.run in
    record { answer = d.0; run = d.1.0; demand_2 = d.1.1.0; demand_3 = d.1.1.1 }
