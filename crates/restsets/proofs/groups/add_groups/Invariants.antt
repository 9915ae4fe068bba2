-- Leader by leader: the states whose first record is below the leader r are done, and the next leader comes later.
use Prim.Native.Nat.{◌-◌}
use Rattle.rests.specs.Rests.{set_at}
use Rattle.restsets.proofs.Adding.{Going}
use Rattle.restsets.proofs.groups.add_groups.Given as goal

abbrev pub invariant-loop-r : goal.invariant-loop-r
invariant-loop-r l = Going l.log l.c (set_at l.initial.scratch l.next) l.a l.f l.to l.r l.initial.scratch l.scratch

abbrev pub decreases-loop-r : goal.decreases-loop-r
decreases-loop-r l = l.c.limit - l.r
