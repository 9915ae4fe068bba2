-- The answer to a table that is accepted.
use mathlib.Core.Path.{ap}
use Rattle.std.specs.Prelude.{Ok}
use Rattle.std.proofs.lemmas.Result.{err_from_is_err_and}
use Rattle.reach.proofs.Answering.{answers_limit}
use Rattle.reach.proofs.answer_table.Goals as goal

pub returns-in_err-held : goal.returns-in_err-held
returns-in_err-held c =
    let both = rw c.in_err-held.was at c.fill_log.ensures in
    let given = err_from_is_err_and c.from_residual.result c.from_residual.ensures.1 in
    rw (given.1, given.2) both.answer

pub answer_limit-requires : goal.answer_limit-requires
answer_limit-requires c =
    let left = rw c.in_ok-held.was at c.fill_log.ensures in left.settled

pub returns : goal.returns
returns c =
    let left = rw c.in_ok-held.was at c.fill_log.ensures in
    answers_limit c.args.table.now.holds left (ap Ok c.answer_limit.ensures.0) c.answer_limit.ensures.1
