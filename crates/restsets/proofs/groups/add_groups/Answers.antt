-- Leader by leader: the states whose first record is below the leader r are done, and the next leader comes later.
use native.Mathlib.Omega.{arith}
use Rattle.restsets.proofs.Adding.{going_start, going_addable, going_later, going_turn, going_end}
use Rattle.restsets.proofs.groups.add_groups.Goals as goal

pub first_leader-r-requires : goal.first_leader-r-requires
first_leader-r-requires c = let p = c.requires in omega (arith, p.1.room)

pub loop-r-init : goal.loop-r-init
loop-r-init c = let p = c.requires in going_start p.0 p.1 c.first_leader-r.ensures

pub add_group-requires : goal.add_group-requires
add_group-requires c =
    let w = c.loop-r.invariant in
    let p = c.requires in
    let h = c.loop-r-test.true in
    record { addable = going_addable p.0 p.1 w; inside = h; leads = w.leader (omega (arith, h, p.0.limited)) }

pub next_leader-r-requires : goal.next_leader-r-requires
next_leader-r-requires c =
    let p = c.requires in (
      omega (arith, p.1.room, c.loop-r.invariant.added.same.size, c.add_group.ensures.same.size),
      omega (arith, c.loop-r-test.true, p.0.limited, p.0.linked.room.fits),
      p.0.linked.room.short,
    )

pub loop-r-smaller : goal.loop-r-smaller
loop-r-smaller c =
    let p = c.requires in
    let h = c.loop-r-test.true in
    omega (arith, h, going_later p.0 p.1 c.loop-r.invariant h c.add_group.ensures c.next_leader-r.ensures)

pub loop-r-preserved : goal.loop-r-preserved
loop-r-preserved c =
    let p = c.requires in
    going_turn p.0 p.1 c.loop-r.invariant c.loop-r-test.true c.add_group.ensures c.next_leader-r.ensures

pub shape_of-scratch : goal.shape_of-scratch
shape_of-scratch c = c.loop-r.invariant.added.same.size

pub returns : goal.returns
returns c =
    let p = c.requires in
    going_end p.0 p.1 c.loop-r.invariant c.loop-r-test.false
