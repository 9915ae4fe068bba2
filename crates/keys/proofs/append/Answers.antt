-- One record after the other is pushed, and the index of all below it is kept (Pushing).
use Rattle.keys.proofs.Pushing.{pushed_turn}
use native.Mathlib.Omega.{arith}
use Rattle.keys.proofs.append.Goals as goal

pub loop-r-preserved : goal.loop-r-preserved
loop-r-preserved c =
    let more = pushed_turn c.requires.1 (omega arith) c.loop-r.invariant.0 c.loop-r.invariant.1 in
    (rw c.push.ensures more.0, rw c.push.ensures more.1)
