-- The records with the leader's states before in turn, from the leader on, until one leads on; each comes later.
use Prim.Native.Nat.{◌-◌}
use Rattle.rests.specs.Rests.{set_at}
use Rattle.restsets.proofs.Adding.{Passing}
use Rattle.restsets.proofs.groups.add_state.Given as goal

abbrev pub invariant-loop-r : goal.invariant-loop-r
invariant-loop-r l = Passing l.log l.c (set_at l.fn.scratch l.next) l.a l.leader l.before l.r

abbrev pub decreases-loop-r : goal.decreases-loop-r
decreases-loop-r l = l.c.limit - l.r
