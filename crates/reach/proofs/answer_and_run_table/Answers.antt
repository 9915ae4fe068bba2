-- The answer to a table that is accepted, and its run.
use Rattle.reach.proofs.Answering.{answers_limit, runs_limit}
use Rattle.reach.proofs.answer_and_run_table.Goals as goal

pub returns-in-Err : goal.returns-in-Err
returns-in-Err c =
    let both = rw c.in-Err.is at c.fill_log.ensures in
    rw (c.refused.ensures.0, c.refused.ensures.1) record { answer = both.answer; run = both.run c.args.page.now }

pub answer_and_run_limit-requires : goal.answer_and_run_limit-requires
answer_and_run_limit-requires c =
    let left = rw c.in-Ok.is at c.fill_log.ensures in left.settled

pub returns-in-Ok : goal.returns-in-Ok
returns-in-Ok c =
    let left = rw c.in-Ok.is at c.fill_log.ensures in
    let both = c.answer_and_run_limit.ensures in
    record { answer = answers_limit c.args.table.now.holds left both.answer both.run.cleared; run = runs_limit c.args.table.now.holds left both.run }
