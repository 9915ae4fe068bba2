-- No record passed over has the key; the walk ends behind the bucket's least record (Seeking).
use Rattle.keys.proofs.Seeking.{Seeking}
use Prim.Native.Nat.{◌+◌, ◌%◌}
use Rattle.keys.proofs.holds.Given as goal

abbrev pub invariant-loop-r : goal.invariant-loop-r
invariant-loop-r l = Seeking l.log l.base l.n l.letter l.g l.x l.r

-- the number of no link counts as the least
abbrev pub decreases-loop-r : goal.decreases-loop-r
decreases-loop-r l = (l.r + 1) % 65536
