-- Each figure is read inside the array; each turn leaves one figure fewer.
use Rattle.std.proofs.Common.{◌≤◌, ◌-◌}
use Rattle.cases.proofs.calls.print_figures.Given as goal

abbrev pub invariant-loop-i : goal.invariant-loop-i
invariant-loop-i g l = l.i ≤ 12

abbrev pub decreases-loop-i : goal.decreases-loop-i
decreases-loop-i g l = 12 - l.i
