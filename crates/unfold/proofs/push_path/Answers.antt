-- The places from the last to the first are pushed one after the other (Pushing).
use native.Mathlib.Omega.{arith}
use Rattle.unfold.proofs.Pushing.{pushing_room, pushing_start, pushing_turn}
use Rattle.unfold.proofs.push_path.Goals as goal

pub loop-j-init : goal.loop-j-init
loop-j-init c = pushing_start _ _ _ _ _ c.path_length-n.ensures

pub push_place-height-requires : goal.push_place-height-requires
push_place-height-requires c = (
  c.requires.0,
  omega (arith, c.loop-j.invariant.left, c.loop-j-test.true),
  pushing_room c.loop-j-test.true c.loop-j.invariant c.path_length-n.ensures c.requires.1,
)

pub loop-j-preserved : goal.loop-j-preserved
loop-j-preserved c =
    pushing_turn c.loop-j-test.true c.loop-j.invariant c.push_place-height.ensures
