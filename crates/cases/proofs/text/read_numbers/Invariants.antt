-- As many numbers are stored as the list has room for, and it keeps its length; each turn leaves one byte of the line fewer.
use Rattle.std.proofs.Common.{◌≡◌, ◌≤◌, ◌-◌, length}
use Rattle.cases.proofs.text.read_numbers.Given as goal

abbrev pub invariant-loop-i : goal.invariant-loop-i
invariant-loop-i l = (l.i ≤ length l.line) × (l.d.count ≤ length l.numbers) × (length l.numbers ≡ length l.initial.numbers)
