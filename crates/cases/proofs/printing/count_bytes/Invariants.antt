-- The count is no more than the bytes that were looked at; each turn leaves one byte fewer.
use Rattle.std.proofs.Common.{◌≤◌, ◌-◌, length}
use Rattle.cases.proofs.printing.count_bytes.Given as goal

abbrev pub invariant-loop-i : goal.invariant-loop-i
invariant-loop-i l = (l.i ≤ length l.bytes) × (l.n ≤ l.i)
