-- Each beginning is shorter than the whole; each turn leaves one length fewer.
use Rattle.std.proofs.Common.{◌≤◌, ◌-◌, length}
use Rattle.cases.proofs.calls.show_cuts.Given as goal

abbrev pub invariant-loop-n : goal.invariant-loop-n
invariant-loop-n g l = l.n ≤ length l.table

abbrev pub decreases-loop-n : goal.decreases-loop-n
decreases-loop-n g l = length l.table - l.n
