-- Each byte is stored inside the table, which keeps its length; each turn leaves one byte of the item fewer.
use Rattle.std.proofs.Common.{◌≡◌, ◌≤◌, ◌-◌, length}
use Rattle.cases.proofs.building.append.Given as goal

abbrev pub invariant-loop-j : goal.invariant-loop-j
invariant-loop-j l = (l.j ≤ length l.item) × (l.at ≤ length l.out) × (length l.out ≡ length l.initial.out)
