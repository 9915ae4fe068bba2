-- The places before the first that has none are counted (Pushing).
use native.Mathlib.Omega.{arith}
use Rattle.unfold.proofs.Pushing.{measured_all, measured_none, measuring_turn}
use Rattle.unfold.proofs.path_length.Goals as goal

pub returns-then-place_at : goal.returns-then-place_at
returns-then-place_at c = measured_none c.loop-n.invariant c.place_at.ensures c.if-place_at.true

pub loop-n-preserved : goal.loop-n-preserved
loop-n-preserved c =
    measuring_turn c.loop-n.invariant c.loop-n-test.true c.place_at.ensures c.if-place_at.false

pub returns : goal.returns
returns c = omega (arith, measured_all c.loop-n.invariant c.loop-n-test.false)
