-- The bound by one more process (Minutes).
use mathlib.Core.Path.{◌≡◌, sym, ◌∙◌}
use Prim.Native.Nat.{◌-◌}
use native.Mathlib.Omega.{arith}
use lib.IntN.{pos}
use lib.ListN.{get_or}
use mir.Syntax.{w64}
use mir.Val.{SFits}
use Rattle.std.proofs.Common.{rules}
use Rattle.model.specs.Groups.{processes_of}
use Rattle.plan_model.specs.Hours.{bound_of}
use Rattle.minutes.proofs.Signed.{read_back_lem}
use Rattle.plans.proofs.Minutes.{bound_later, bound_same}
use Rattle.plans.proofs.bound_of.Goals as goal

pub loop-i-preserved-then-has_process : goal.loop-i-preserved-then-has_process
loop-i-preserved-then-has_process c =
    let j = c.loop-i.i - 1 in
    let fits : SFits w64 (get_or c.args.ends.now j (pos 0)) = search rules in
    bound_later _ c.args.ends.now (processes_of c.args.bits) c.loop-i.i j (omega (arith, c.loop-i-test.true)) c.loop-i.auto.i _ c.loop-i.invariant
    c.later_of-bound.result fits (record { sfits = c.later_of-bound.type_inv }) (sym c.has_process.ensures.by_place ∙ c.if-has_process.true) c.later_of-bound.ensures

pub loop-i-preserved : goal.loop-i-preserved
loop-i-preserved c =
    bound_same _ c.args.ends.now (processes_of c.args.bits) c.loop-i.i (c.loop-i.i - 1) (omega (arith, c.loop-i-test.true)) c.loop-i.auto.i _ c.loop-i.invariant
    (sym c.has_process.ensures.by_place ∙ c.if-has_process.false)

pub returns : goal.returns
unfolding bound_of
returns c = let all : c.loop-i.i ≡ 0 = omega (arith, c.loop-i-test.false) in rw (all, read_back_lem c.ranges.start) at c.loop-i.invariant
