-- A noted rule fits some minute (Judged), and one that is noted now does too (Checks).
use native.Mathlib.Omega.{arith}
use Rattle.table.proofs.Layouts.{table_modest}
use Rattle.plans.proofs.judge.Goals as goal

pub bounds-fitting-n : goal.bounds-fitting-n
bounds-fitting-n c = omega (arith, c.requires.1, (table_modest _ _ c.args.table.now.holds).rules)

pub bounds-fitting-n-2 : goal.bounds-fitting-n-2
bounds-fitting-n-2 c = omega (arith, c.requires.1, (table_modest _ _ c.args.table.now.holds).rules)
