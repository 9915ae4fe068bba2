-- The records with the leader's states before in turn, from the leader on, until one leads on; each comes later.
use mathlib.Core.Path.{◌≡◌, refl, ap, ap₂, sym, subst, ◌∙◌}
use mathlib.Core.List.{List}
use lib.ListN.{length}
use Prim.Native.Nat.{ℕ, ◌*◌, ◌+◌, ◌<◌}
use native.Mathlib.Omega.{arith}
use Rattle.model.specs.Groups.{processes_of}
use Rattle.model.specs.Records.{record_length, before_at, after_at}
use Rattle.states.specs.StateNumbers.{Over}
use Rattle.states.specs.StateSets.{first_from, member}
use Rattle.packs.specs.Packs.{packed, packed_after, packed_before, packed_merge, packed_number}
use Rattle.packs.proofs.Packs.{pack_group}
use Rattle.rings.specs.Rings.{record_reads}
use Rattle.leaders.specs.Leaders.{Linked}
use Rattle.leaders.proofs.Leaders.{leader_parts, leader_first}
use Rattle.rests.specs.Rests.{own_number, set_at}
use Rattle.rests.proofs.Leading.{reads_later}
use Rattle.restsets.specs.Sets.{with_state}
use Rattle.restsets.specs.OwnGroups.{Added}
use Rattle.restsets.proofs.OwnGroups.{own_at}
use Rattle.restsets.proofs.Adding.{Alike, passing_start, passing_turn, passing_found, passing_end}
use Rattle.restsets.proofs.groups.add_state.Goals as goal

pub before_at-before-requires : goal.before_at-before-requires
before_at-before-requires c = let p = c.requires.0 in omega (arith, p.addable.linked.room.records, p.inside, p.addable.limited)

pub loop-r-init : goal.loop-r-init
unfolding packed_before before_at
loop-r-init c =
    let before_is : c.before_at-before.result ≡ packed (before_at c.args.log.now c.args.leader) = c.before_at-before.ensures ∙ pack_group c.args.log.now (c.args.leader * record_length + 1) in
    let a = c.args in
    let p = c.requires.0 in
    let first = (leader_first a.log.now a.a.number a.leader a.c.count p.leads (omega (arith, p.inside, p.addable.limited))).0 in
    passing_start before_is (first ∙ ap (λ (g : ℕ). first_from (record_reads a.log.now a.a.number g) 0 a.c.count) (sym c.before_at-before.ensures))

pub after_at-requires : goal.after_at-requires
after_at-requires c = let p = c.requires.0.addable in omega (arith, c.loop-r-test.true, p.linked.room.records, p.limited)

pub holds-requires : goal.holds-requires
holds-requires c =
    let p = c.requires.0.addable in
    (c.own_number.ensures.1, p.apart.from_room)

pub insert_state-requires : goal.insert_state-requires
insert_state-requires c =
    let p = c.requires.0.addable in
    (c.own_number-then-holds.ensures.1, p.apart.to_room)

pub returns-then-holds : goal.returns-then-holds
unfolding packed_before before_at packed_after after_at
returns-then-holds c =
    let y_is : c.own_number.result ≡ own_number (processes_of c.args.a.bits) (after_at c.args.log.now c.loop-r.r) =
    c.own_number.ensures.0 ∙ ap (λ (g : ℕ). packed_number (packed_merge c.args.f.mask g 0)) c.after_at.ensures
    ∙ own_at (processes_of c.args.a.bits) c.args.f.mask c.args.log.now (c.loop-r.r * record_length + 5) c.requires.0.addable.framed.mask (λ m. omega (arith, c.shared_slice_known-1.given m)) in
    let asked : c.holds.result ≡ member (set_at c.args.scratch.now c.args.next) (own_number (processes_of c.args.a.bits) (after_at c.args.log.now c.loop-r.r)) =
    c.holds.ensures ∙ ap (member (set_at c.args.scratch.now c.args.next)) y_is in
    let over : Over (processes_of c.args.a.bits) (before_at c.args.log.now c.args.leader) = let p = c.requires.0 in p.addable.shaped c.args.leader p.inside (leader_parts _ _ _ p.leads).0 in
    let x_is : c.own_number-then-holds.result ≡ own_number (processes_of c.args.a.bits) (before_at c.args.log.now c.args.leader) = let a = c.args in
    c.own_number-then-holds.ensures.0 ∙ ap (λ (g : ℕ). packed_number (packed_merge a.f.mask g 0)) c.before_at-before.ensures
    ∙ own_at (processes_of a.a.bits) a.f.mask a.log.now (a.leader * record_length + 1) c.requires.0.addable.framed.mask (λ m. omega (arith, c.shared_slice_known-1.given m)) in
    let p = c.requires in
    let a = c.args in
    passing_found p.0.addable p.1 c.loop-r.invariant over c.loop-r-test.true (sym asked ∙ c.if-holds.true)
    x_is c.insert_state.ensures

pub new-rings-requires : goal.new-rings-requires
new-rings-requires c = let p = c.requires.0.addable.linked in (p.room, p.ringed)

pub next_match-r-requires : goal.next_match-r-requires
next_match-r-requires c =
    let p = c.requires.0.addable in
    let below : c.loop-r.r < c.args.c.count = omega (arith, c.loop-r-test.true, p.limited) in
    rw (c.new-rings.ensures.0, c.new-rings.ensures.4) (below, c.loop-r.invariant.reading below)

pub loop-r-smaller : goal.loop-r-smaller
loop-r-smaller c =
    omega (arith, reads_later _ _ _ _ _ _ (rw (c.new-rings.ensures.0, c.new-rings.ensures.4) at c.next_match-r.ensures), c.loop-r-test.true)

pub loop-r-preserved : goal.loop-r-preserved
unfolding packed_after after_at
loop-r-preserved c =
    let y_is : c.own_number.result ≡ own_number (processes_of c.args.a.bits) (after_at c.args.log.now c.loop-r.r) =
    c.own_number.ensures.0 ∙ ap (λ (g : ℕ). packed_number (packed_merge c.args.f.mask g 0)) c.after_at.ensures
    ∙ own_at (processes_of c.args.a.bits) c.args.f.mask c.args.log.now (c.loop-r.r * record_length + 5) c.requires.0.addable.framed.mask (λ m. omega (arith, c.shared_slice_known-1.given m)) in
    let asked : c.holds.result ≡ member (set_at c.args.scratch.now c.args.next) (own_number (processes_of c.args.a.bits) (after_at c.args.log.now c.loop-r.r)) =
    c.holds.ensures ∙ ap (member (set_at c.args.scratch.now c.args.next)) y_is in
    passing_turn c.loop-r.invariant (sym asked ∙ c.if-holds.false) (rw (c.new-rings.ensures.0, c.new-rings.ensures.4) at c.next_match-r.ensures)

pub returns : goal.returns
returns c =
    let p = c.requires in
    let a = c.args in
    passing_end p.0.addable p.1 c.loop-r.invariant c.loop-r-test.false
