-- The desk is good and the place inside the text; each line leaves less of it.
use Rattle.std.proofs.Common.{◌≤◌, ◌-◌, length}
use Rattle.desk.specs.Promises.{Good}
use Rattle.cases.proofs.sitting.work.Given as goal

abbrev pub invariant-loop-at : goal.invariant-loop-at
invariant-loop-at g l = Good l.d × (l.from ≤ l.at) × (l.at ≤ length l.text)

abbrev pub decreases-loop-at : goal.decreases-loop-at
decreases-loop-at g l = length l.text - l.at
