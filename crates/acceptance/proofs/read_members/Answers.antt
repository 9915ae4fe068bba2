-- The states below the next member have put in what the letter leads to from them (Sets).
use mathlib.Core.Path.{refl, ◌∙◌}
use native.Mathlib.Omega.{arith}
use Rattle.states.proofs.StateSets.{next_at}
use Rattle.acceptance.proofs.Sets.{collected_start, collected_turn, collected_end}
use Rattle.acceptance.proofs.read_members.Goals as goal

pub loop-n-smaller : goal.loop-n-smaller
loop-n-smaller c = omega (arith, (next_at _ _ _ c.read_member-n.ensures.1).low)

pub loop-n-init : goal.loop-n-init
loop-n-init c = (refl, refl, collected_start _ _ _ _ _ _ c.next_member-n.ensures)

pub read_member-n-requires : goal.read_member-n-requires
read_member-n-requires c =
    (c.loop-n-test.true, omega (arith, c.loop-n.invariant.0, c.requires))

pub loop-n-preserved : goal.loop-n-preserved
loop-n-preserved c =
    let m = c.loop-n in
    let e = c.read_member-n.ensures in
    (c.read_member-n.auto.scratch ∙ m.invariant.0, e.0 ∙ m.invariant.1, collected_turn _ _ _ _ _ _ _ _ _ c.loop-n-test.true m.invariant.2 (rw m.invariant.1 at e.1) e.2)

pub returns : goal.returns
returns c = collected_end _ _ _ _ _ _ _ c.loop-n-test.false c.loop-n.invariant.2
