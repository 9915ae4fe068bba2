-- The answer call: its table is refused, or accepted and answered.
use mathlib.Core.Path.{sym, ◌∙◌}
use Rattle.std.proofs.lemmas.Result.{err_from_is_err_and}
use Rattle.reach.proofs.Answering.{answer_demands, table_refused}
use Rattle.reach.proofs.answer.Goals as goal

pub returns-in_err-counts : goal.returns-in_err-counts
returns-in_err-counts c =
    let a = c.args in
    let d = answer_demands a.table.now a.log.now a.scratch.now (table_refused a.table.now a.log.now a.scratch.now _ (sym c.read.ensures ∙ c.in_err-counts.was)).answer in
    let given = err_from_is_err_and c.from_residual.result c.from_residual.ensures.1 in
    rw (given.1, given.2) record { demand_1 = d.0; demand_2 = d.1.0; demand_3 = d.1.1 }

pub invariant_of-accepted : goal.invariant_of-accepted
invariant_of-accepted c = record { holds = record { reading = sym c.read.ensures ∙ c.in_ok-counts.was } }

pub returns : goal.returns
returns c =
    let a = c.args in
    let d = answer_demands a.table.now a.log.now a.scratch.now c.answer_table.ensures in
    record { demand_1 = d.0; demand_2 = d.1.0; demand_3 = d.1.1 }
