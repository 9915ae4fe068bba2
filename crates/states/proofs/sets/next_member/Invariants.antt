-- No number before n is a member (StateSets).
use Prim.Native.Nat.{◌≤◌, ◌-◌}
use Rattle.states.specs.StateNumbers.{state_count}
use Rattle.states.specs.StateSets.{member}
use Rattle.states.proofs.StateSets.{Fails}
use Rattle.states.proofs.sets.next_member.Given as goal

abbrev pub invariant-loop-n : goal.invariant-loop-n
invariant-loop-n l = (l.from ≤ l.n) × (l.n ≤ state_count) × Fails (member l.members) l.from l.n

abbrev pub decreases-loop-n : goal.decreases-loop-n
decreases-loop-n l = state_count - l.n
