-- No state of the set below the next member is accepting (Sets).
use mathlib.Core.Path.{◌∙◌, sym}
use native.Mathlib.Omega.{arith}
use Rattle.states.proofs.StateSets.{next_at}
use Rattle.acceptance.proofs.Sets.{searching_start, searching_turn, searching_found, searching_end}
use Rattle.acceptance.proofs.has_accepting.Goals as goal

pub loop-n-smaller : goal.loop-n-smaller
loop-n-smaller c = omega (arith, (next_at _ _ _ c.next_member-n-in-loop-n.ensures).low)

pub loop-n-init : goal.loop-n-init
loop-n-init c = searching_start _ _ _ _ c.next_member-n.ensures

pub returns-then-is_accepting : goal.returns-then-is_accepting
returns-then-is_accepting c =
    searching_found _ _ _ _ c.loop-n-test.true c.loop-n.invariant (rw (← c.state_at.ensures) (sym c.is_accepting.ensures ∙ c.if-is_accepting.true))

pub loop-n-preserved : goal.loop-n-preserved
loop-n-preserved c =
    searching_turn _ _ _ _ _ c.loop-n-test.true c.loop-n.invariant (rw (← c.state_at.ensures) (sym c.is_accepting.ensures ∙ c.if-is_accepting.false)) c.next_member-n-in-loop-n.ensures

pub returns : goal.returns
returns c = searching_end _ _ _ _ c.loop-n-test.false c.loop-n.invariant
