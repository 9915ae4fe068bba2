-- Each letter's record in turn gives the start's path.
use native.Mathlib.Omega.{arith}
use Rattle.start.proofs.Tracing.{tracing_start, tracing_underway, tracing_turn, tracing_end}
use Rattle.start.proofs.paths.write_path.Goals as goal

pub loop-i-init : goal.loop-i-init
loop-i-init c = tracing_start c.requires c.start_group-g.ensures

pub advance-g-requires : goal.advance-g-requires
advance-g-requires c = tracing_underway c.requires c.loop-i-test.true c.loop-i.invariant

pub loop-i-preserved : goal.loop-i-preserved
loop-i-preserved c =
    tracing_turn c.requires c.loop-i-test.true c.loop-i.invariant c.advance-g.ensures

pub shape_of-scratch : goal.shape_of-scratch
shape_of-scratch c = c.loop-i.invariant.same.size

pub returns : goal.returns
returns c = tracing_end c.loop-i-test.false c.loop-i.invariant
