-- Each pair is read inside the list, and the table keeps its length; each turn leaves one pair fewer.
use Rattle.std.proofs.Common.{◌≡◌, ◌≤◌, ◌*◌, ◌-◌, length}
use Rattle.cases.proofs.building.change_all.Given as goal

abbrev pub invariant-loop-j : goal.invariant-loop-j
invariant-loop-j l = (2 * l.j ≤ length l.list) × (length l.out ≡ length l.initial.out)
