-- One record after the other is appended, and the rings of all below it are kept (Appending).
use Rattle.rings.proofs.Appending.{appending_turn}
use native.Mathlib.Omega.{arith}
use Rattle.rings.proofs.append.Goals as goal

pub loop-r-preserved : goal.loop-r-preserved
loop-r-preserved c =
    rw c.append_record.ensures (appending_turn c.requires.1 (omega arith) c.loop-r.invariant)
