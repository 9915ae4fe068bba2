-- The rules written so far and what the stack still emits are the whole run; each turn uses up a place of the page or of the stack (Working).
use mathlib.Core.Path.{refl}
use native.Mathlib.Omega.{arith}
use Rattle.unfold.proofs.Working.{working_start, working_workable, working_turn, working_less, working_small, working_end}
use Rattle.unfold.proofs.work_off.Goals as goal

pub loop-w-init : goal.loop-w-init
loop-w-init c = working_start c.requires refl refl c.start_lengths-lengths.result c.start_lengths-lengths.ensures

pub work_one-requires : goal.work_one-requires
work_one-requires c =
    working_workable c.requires c.loop-w-test.true c.loop-w.invariant

pub loop-w-smaller : goal.loop-w-smaller
loop-w-smaller c =
    working_less c.requires c.loop-w-test.true c.loop-w.invariant c.work_one.ensures

pub loop-w-preserved : goal.loop-w-preserved
loop-w-preserved c =
    working_turn c.requires c.loop-w-test.true c.loop-w.invariant c.work_one.ensures

pub overflow_sub-result : goal.overflow_sub-result
overflow_sub-result c =
    omega (arith, c.highest.ensures, (working_small c.requires c.loop-w.invariant).1)

pub returns : goal.returns
returns c =
    rw c.highest.ensures (working_end c.requires c.loop-w-test.false c.loop-w.invariant)
