-- The count is no more than the places that were looked at; each turn leaves one place fewer.
use Rattle.std.proofs.Common.{◌≤◌, ◌-◌, length}
use Rattle.cases.proofs.printing.count_places.Given as goal

abbrev pub invariant-loop-i : goal.invariant-loop-i
invariant-loop-i l = (l.i ≤ length l.page) × (l.n ≤ l.i)
