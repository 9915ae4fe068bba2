-- The sets from letter i on are right, and each is filled from the one behind it.
use native.Mathlib.Omega.{arith}
use Rattle.start.proofs.Backwards.{backwards_start, backwards_fillable, backwards_turn, backwards_end}
use Rattle.start.proofs.sets.fill_sets.Goals as goal

pub loop-i-init : goal.loop-i-init
loop-i-init c = backwards_start c.requires.0

pub overflow_mul-i : goal.overflow_mul-i
overflow_mul-i c = let inv = c.loop-i.invariant in omega (arith, inv.few, inv.short)

pub overflow_mul-i-in-loop-i : goal.overflow_mul-i-in-loop-i
overflow_mul-i-in-loop-i c = let inv = c.loop-i.invariant in omega (arith, inv.few, inv.short)

pub fill_set-requires : goal.fill_set-requires
fill_set-requires c = backwards_fillable c.loop-i-test.true c.loop-i.invariant c.requires.1

pub loop-i-preserved : goal.loop-i-preserved
loop-i-preserved c =
    backwards_turn c.loop-i-test.true c.loop-i.invariant c.fill_set.ensures

pub shape_of-scratch : goal.shape_of-scratch
shape_of-scratch c = c.loop-i.invariant.size

pub returns : goal.returns
returns c = backwards_end c.loop-i-test.false c.loop-i.invariant
