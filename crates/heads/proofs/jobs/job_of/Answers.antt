-- The job has the head, the number and the written letters of the rule.
use native.Mathlib.Omega.{arith}
use Rattle.table.proofs.Layouts.{table_modest}
use Rattle.heads.proofs.jobs.job_of.Goals as goal

pub overflow_cast-result : goal.overflow_cast-result
overflow_cast-result c =
    omega (arith, c.requires.0, (table_modest c.args.table.now.bytes.now c.args.table.now.counts c.args.table.now.holds).rules)
