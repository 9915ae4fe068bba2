-- What is read from the cursor on is what the whole reading gives, and the filter is that of the items before it (Marks); each item moves the cursor on.
use Prim.Native.Nat.{◌-◌}
use lib.ListN.{length}
use Rattle.reading.proofs.Marks.{Filtering}
use Rattle.reading.proofs.read.Given as goal

abbrev pub invariant-loop-next : goal.invariant-loop-next
invariant-loop-next l = Filtering l.bytes l.c l.seen

abbrev pub decreases-loop-next : goal.decreases-loop-next
decreases-loop-next l = length l.bytes - l.c.at
