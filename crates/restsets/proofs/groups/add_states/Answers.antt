-- The records with the leader's states before in turn, from the leader on: those below r are taken, and the next one comes later.
use mathlib.Core.Path.{◌≡◌, ap, sym, ◌∙◌}
use Prim.Native.Nat.{ℕ, ◌*◌, ◌+◌, ◌<◌}
use native.Mathlib.Omega.{arith}
use Rattle.model.specs.Groups.{processes_of}
use Rattle.model.specs.Records.{record_length, before_at, after_at}
use Rattle.states.specs.StateNumbers.{Over}
use Rattle.states.specs.StateSets.{first_from}
use Rattle.packs.specs.Packs.{packed, packed_after, packed_before, packed_merge, packed_number}
use Rattle.packs.proofs.Packs.{pack_group}
use Rattle.rings.specs.Rings.{record_reads}
use Rattle.leaders.proofs.Leaders.{leader_parts, leader_first}
use Rattle.rests.specs.Rests.{own_number}
use Rattle.rests.proofs.Leading.{reads_later}
use Rattle.restsets.proofs.OwnGroups.{own_at}
use Rattle.restsets.proofs.Adding.{taking_start, taking_fits, taking_linked, taking_turn, taking_full, taking_end}
use Rattle.restsets.proofs.groups.add_states.Goals as goal

pub before_at-before-requires : goal.before_at-before-requires
before_at-before-requires c = let p = c.requires in omega (arith, p.addable.linked.room.records, p.inside, p.addable.limited)

pub loop-r-init : goal.loop-r-init
unfolding packed_before before_at
loop-r-init c =
    let before_is : c.before_at-before.result ≡ packed (before_at c.args.log.now c.args.leader) = c.before_at-before.ensures ∙ pack_group c.args.log.now (c.args.leader * record_length + 1) in
    let a = c.args in
    let p = c.requires in
    let first = (leader_first a.log.now a.a.number a.leader a.c.count p.leads (omega (arith, p.inside, p.addable.limited))).0 in
    taking_start a.scratch.now before_is (first ∙ ap (λ (g : ℕ). first_from (record_reads a.log.now a.a.number g) 0 a.c.count) (sym c.before_at-before.ensures))

pub after_at-requires : goal.after_at-requires
after_at-requires c = let p = c.requires in omega (arith, c.loop-r-test.true, p.addable.linked.room.records, p.addable.limited)

pub add_record-common-requires : goal.add_record-common-requires
unfolding packed_before before_at packed_after after_at
add_record-common-requires c =
    let over : Over (processes_of c.args.a.bits) (before_at c.args.log.now c.args.leader) = let p = c.requires in p.addable.shaped c.args.leader p.inside (leader_parts _ _ _ p.leads).0 in
    let x_is : c.own_number-x.result ≡ own_number (processes_of c.args.a.bits) (before_at c.args.log.now c.args.leader) = let a = c.args in
    c.own_number-x.ensures.0 ∙ ap (λ (g : ℕ). packed_number (packed_merge a.f.mask g 0)) c.before_at-before.ensures
    ∙ own_at (processes_of a.a.bits) a.f.mask a.log.now (a.leader * record_length + 1) c.requires.addable.framed.mask (λ m. omega (arith, c.shared_slice_known-1.given m)) in
    let y-is : c.own_number-y.result ≡ own_number (processes_of c.args.a.bits) (after_at c.args.log.now c.loop-r.r) = let a = c.args in
    c.own_number-y.ensures.0 ∙ ap (λ (g : ℕ). packed_number (packed_merge a.f.mask g 0)) c.after_at.ensures
    ∙ own_at (processes_of a.a.bits) a.f.mask a.log.now (c.loop-r.r * record_length + 5) c.requires.addable.framed.mask (λ m. omega (arith, c.shared_slice_known-1.given m)) in
    taking_fits c.requires.addable over c.loop-r.invariant x_is y-is

pub shape_of-scratch-then-common-f : goal.shape_of-scratch-then-common-f
shape_of-scratch-then-common-f c =
    c.add_record-common.ensures.outside.size ∙ c.loop-r.invariant.added.same.size

pub returns-then-common-f : goal.returns-then-common-f
unfolding packed_before before_at packed_after after_at
returns-then-common-f c =
    let over : Over (processes_of c.args.a.bits) (before_at c.args.log.now c.args.leader) = let p = c.requires in p.addable.shaped c.args.leader p.inside (leader_parts _ _ _ p.leads).0 in
    let x_is : c.own_number-x.result ≡ own_number (processes_of c.args.a.bits) (before_at c.args.log.now c.args.leader) = let a = c.args in
    c.own_number-x.ensures.0 ∙ ap (λ (g : ℕ). packed_number (packed_merge a.f.mask g 0)) c.before_at-before.ensures
    ∙ own_at (processes_of a.a.bits) a.f.mask a.log.now (a.leader * record_length + 1) c.requires.addable.framed.mask (λ m. omega (arith, c.shared_slice_known-1.given m)) in
    let y-is : c.own_number-y.result ≡ own_number (processes_of c.args.a.bits) (after_at c.args.log.now c.loop-r.r) = let a = c.args in
    c.own_number-y.ensures.0 ∙ ap (λ (g : ℕ). packed_number (packed_merge a.f.mask g 0)) c.after_at.ensures
    ∙ own_at (processes_of a.a.bits) a.f.mask a.log.now (c.loop-r.r * record_length + 5) c.requires.addable.framed.mask (λ m. omega (arith, c.shared_slice_known-1.given m)) in
    taking_full c.requires.addable over c.loop-r.invariant x_is y-is c.loop-r-test.true
    c.add_record-common.ensures c.if-common-f.true

pub new-requires : goal.new-requires
unfolding packed_before before_at packed_after after_at
new-requires c =
    let over : Over (processes_of c.args.a.bits) (before_at c.args.log.now c.args.leader) = let p = c.requires in p.addable.shaped c.args.leader p.inside (leader_parts _ _ _ p.leads).0 in
    let x_is : c.own_number-x.result ≡ own_number (processes_of c.args.a.bits) (before_at c.args.log.now c.args.leader) = let a = c.args in
    c.own_number-x.ensures.0 ∙ ap (λ (g : ℕ). packed_number (packed_merge a.f.mask g 0)) c.before_at-before.ensures
    ∙ own_at (processes_of a.a.bits) a.f.mask a.log.now (a.leader * record_length + 1) c.requires.addable.framed.mask (λ m. omega (arith, c.shared_slice_known-1.given m)) in
    let y-is : c.own_number-y.result ≡ own_number (processes_of c.args.a.bits) (after_at c.args.log.now c.loop-r.r) = let a = c.args in
    c.own_number-y.ensures.0 ∙ ap (λ (g : ℕ). packed_number (packed_merge a.f.mask g 0)) c.after_at.ensures
    ∙ own_at (processes_of a.a.bits) a.f.mask a.log.now (c.loop-r.r * record_length + 5) c.requires.addable.framed.mask (λ m. omega (arith, c.shared_slice_known-1.given m)) in
    let w = c.loop-r.invariant in
    let h = c.loop-r-test.true in
    let p = c.requires.addable in
    let linked = taking_linked p over w x_is y-is h c.add_record-common.ensures in
    (linked.room, linked.ringed)

pub next_match-r-requires : goal.next_match-r-requires
next_match-r-requires c =
    let below : c.loop-r.r < c.args.c.count = omega (arith, c.loop-r-test.true, c.requires.addable.limited) in
    rw (c.new.ensures.0, c.new.ensures.4) (below, c.loop-r.invariant.reading below)

pub loop-r-smaller : goal.loop-r-smaller
loop-r-smaller c =
    omega (arith, reads_later _ _ _ _ _ _ (rw (c.new.ensures.0, c.new.ensures.4) at c.next_match-r.ensures), c.loop-r-test.true)

pub loop-r-preserved : goal.loop-r-preserved
unfolding packed_before before_at packed_after after_at
loop-r-preserved c =
    let over : Over (processes_of c.args.a.bits) (before_at c.args.log.now c.args.leader) = let p = c.requires in p.addable.shaped c.args.leader p.inside (leader_parts _ _ _ p.leads).0 in
    let x_is : c.own_number-x.result ≡ own_number (processes_of c.args.a.bits) (before_at c.args.log.now c.args.leader) = let a = c.args in
    c.own_number-x.ensures.0 ∙ ap (λ (g : ℕ). packed_number (packed_merge a.f.mask g 0)) c.before_at-before.ensures
    ∙ own_at (processes_of a.a.bits) a.f.mask a.log.now (a.leader * record_length + 1) c.requires.addable.framed.mask (λ m. omega (arith, c.shared_slice_known-1.given m)) in
    let y-is : c.own_number-y.result ≡ own_number (processes_of c.args.a.bits) (after_at c.args.log.now c.loop-r.r) = let a = c.args in
    c.own_number-y.ensures.0 ∙ ap (λ (g : ℕ). packed_number (packed_merge a.f.mask g 0)) c.after_at.ensures
    ∙ own_at (processes_of a.a.bits) a.f.mask a.log.now (c.loop-r.r * record_length + 5) c.requires.addable.framed.mask (λ m. omega (arith, c.shared_slice_known-1.given m)) in
    taking_turn c.requires.addable over c.loop-r.invariant x_is y-is c.loop-r-test.true
    c.add_record-common.ensures (rw (c.new.ensures.0, c.new.ensures.4) at c.next_match-r.ensures)

pub shape_of-scratch : goal.shape_of-scratch
shape_of-scratch c = c.loop-r.invariant.added.same.size

pub returns : goal.returns
returns c = taking_end c.loop-r-test.false c.loop-r.invariant
