-- The records with the leader's states before in turn, from the leader on: those below r are taken, and the next one comes later.
use Prim.Native.Nat.{◌-◌}
use Rattle.rests.specs.Rests.{set_at}
use Rattle.restsets.proofs.Adding.{Taking}
use Rattle.restsets.proofs.groups.add_states.Given as goal

abbrev pub invariant-loop-r : goal.invariant-loop-r
invariant-loop-r l = Taking l.log l.c (set_at l.initial.scratch l.next) l.a l.f l.to l.leader l.before l.r l.initial.scratch l.scratch

abbrev pub decreases-loop-r : goal.decreases-loop-r
decreases-loop-r l = l.c.limit - l.r
