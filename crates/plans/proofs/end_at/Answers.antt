-- All four processes were looked at.
use mathlib.Core.Path.{◌≡◌}
use native.Mathlib.Omega.{arith}
use Rattle.minutes.proofs.Signed.{read_back_lem}
use Rattle.plan_model.specs.Hours.{ended_at}
use Rattle.plans.proofs.end_at.Goals as goal

pub returns : goal.returns
unfolding ended_at
returns c = let all : c.loop-i.i ≡ 4 = omega (arith, c.loop-i-test.false, c.loop-i.auto.i-end) in rw (all, read_back_lem c.ranges.t) at c.loop-i.invariant
