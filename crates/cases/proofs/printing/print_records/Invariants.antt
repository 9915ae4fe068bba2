-- Each record is read inside the log; each turn leaves one record fewer.
use Rattle.std.proofs.Common.{◌≤◌, ◌*◌, ◌-◌, length}
use Rattle.cases.proofs.printing.print_records.Given as goal

abbrev pub invariant-loop-i : goal.invariant-loop-i
invariant-loop-i g l = 28 * l.i ≤ length l.log

abbrev pub decreases-loop-i : goal.decreases-loop-i
decreases-loop-i g l = length l.log - l.i
