-- The text goes on inside it, and the table ends inside its buffer; each step leaves less text.
use Rattle.std.proofs.Common.{◌≡◌, ◌≤◌, ◌-◌, length}
use Rattle.cases.proofs.perform_all.Given as goal

abbrev pub invariant-loop-s : goal.invariant-loop-s
invariant-loop-s g l = (l.s.at ≤ length l.text) × (l.s.end ≤ length l.table) × (length l.table ≡ length l.initial.table)

abbrev pub decreases-loop-s : goal.decreases-loop-s
decreases-loop-s g l = length l.text - l.s.at
