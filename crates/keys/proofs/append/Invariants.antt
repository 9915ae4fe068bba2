-- One record after the other is pushed, and the index of all below it is kept (Pushing).
use Rattle.rings.specs.Rings.{OutsideSame}
use Rattle.keys.specs.Keys.{Indexed}
use Prim.Native.Nat.{◌*◌}
use Rattle.keys.proofs.append.Given as goal

abbrev pub invariant-loop-r : goal.invariant-loop-r
invariant-loop-r l = OutsideSame (4 * l.n) l.at l.initial.scratch l.scratch × Indexed l.log l.r l.n l.at l.scratch
