-- The records that read the letter in the state in turn, until one leads into the set; each comes later.
use Prim.Native.Nat.{◌-◌}
use Rattle.rests.specs.Rests.{set_at}
use Rattle.rests.proofs.Leading.{Seeking}
use Rattle.start.proofs.paths.first_lead.Given as goal

abbrev pub invariant-loop-r : goal.invariant-loop-r
invariant-loop-r l = Seeking l.log (set_at l.scratch l.at) l.a l.g l.before l.c.count l.r

abbrev pub decreases-loop-r : goal.decreases-loop-r
decreases-loop-r l = l.c.limit - l.r
