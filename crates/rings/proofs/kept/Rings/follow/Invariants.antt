-- No record passed over reads the letter; a link that does not rise is the ring's end (Walking).
use Rattle.rings.proofs.Walking.{Walks}
use Prim.Native.Nat.{◌-◌}
use Rattle.rings.proofs.kept.Rings.follow.Given as goal

abbrev pub invariant-loop-next : goal.invariant-loop-next
invariant-loop-next l = Walks l.self.log.now l.self.base l.self.n l.letter l.g l.start l.r

abbrev pub decreases-loop-next : goal.decreases-loop-next
decreases-loop-next l = l.self.base - l.r
