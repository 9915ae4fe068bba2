-- The run call is the second of both calls.
use Rattle.reach.proofs.Answering.{run_demands}
use Rattle.reach.proofs.run.Goals as goal

pub returns : goal.returns
returns c =
    let a = c.args in
    let d = run_demands a.table.now a.log.now a.scratch.now a.page.now c.answer_and_run-both.ensures.run in
    record { demand_1 = d.0; demand_2 = d.1.0; demand_3 = d.1.1 }
