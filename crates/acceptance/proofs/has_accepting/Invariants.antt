-- No state of the set below the next member is accepting (Sets).
use Prim.Native.Nat.{◌-◌}
use Rattle.states.specs.StateNumbers.{state_count}
use Rattle.table.specs.Reading.{system_in}
use Rattle.table.specs.Present.{present_in}
use Rattle.acceptance.proofs.Sets.{Searching}
use Rattle.acceptance.proofs.has_accepting.Given as goal

abbrev pub invariant-loop-n : goal.invariant-loop-n
invariant-loop-n l = Searching (system_in l.table.bytes.now) (present_in l.table.counts) l.members l.n

abbrev pub decreases-loop-n : goal.decreases-loop-n
decreases-loop-n l = state_count - l.n
