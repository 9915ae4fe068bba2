-- A table that is refused ends the walk before it; an accepted one is walked over (Outcomes).
use mathlib.Core.Path.{◌∙◌, sym}
use Rattle.std.proofs.lemmas.Result.{err_from_is_err_and}
use Rattle.walk.proofs.Outcomes.{table_halts}
use Rattle.walk.proofs.walk_table.Goals as goal

pub returns-in_err-counts : goal.returns-in_err-counts
returns-in_err-counts c =
    let a = c.args in
    let given = err_from_is_err_and c.from_residual.result c.from_residual.ensures.1 in
    rw (given.1, given.2) (table_halts a.table.now a.list.now a.pile.now a.scratch.now _ (sym c.read.ensures ∙ c.in_err-counts.was))

pub invariant_of-accepted : goal.invariant_of-accepted
invariant_of-accepted c = record { holds = record { reading = sym c.read.ensures ∙ c.in_ok-counts.was } }
