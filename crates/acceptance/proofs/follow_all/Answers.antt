-- The transitions so far have put in what they lead to, one after the other (Sets).
use mathlib.Core.List.{[]}
use native.Mathlib.Omega.{arith}
use Rattle.model.specs.Tables.{transition_of}
use Rattle.table.proofs.Layouts.{transitions_count}
use Rattle.acceptance.proofs.Sets.{following_turn, following_end}
use Rattle.acceptance.proofs.follow_all.Goals as goal

pub loop-k-preserved : goal.loop-k-preserved
loop-k-preserved c =
    following_turn _ _ _ _ _ _ _ c.loop-k.k (transition_of []) (omega (arith, transitions_count _ _ c.args.table.now.holds)) c.follow.auto.next c.loop-k.invariant c.follow.ensures

pub returns : goal.returns
returns c =
    following_end _ _ _ _ _ _ c.loop-k.k (omega (arith, transitions_count _ _ c.args.table.now.holds, c.loop-k-test.false)) c.loop-k.invariant
