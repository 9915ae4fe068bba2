-- The records that read the letter in the state in turn, until one leads into the set; each comes later.
use mathlib.Core.Path.{ap, ◌∙◌}
use native.Mathlib.Omega.{arith}
use Rattle.packs.specs.Packs.{packed}
use Rattle.rests.proofs.Leading.{seeking_start, seeking_turn, seeking_found, seeking_none, reads_later}
use Rattle.start.proofs.paths.first_lead.Goals as goal

pub new-rings-requires : goal.new-rings-requires
new-rings-requires c = (c.requires.0.room, c.requires.0.ringed)

pub loop-r-init : goal.loop-r-init
loop-r-init c = seeking_start (c.pack-before.ensures.0 ∙ ap packed c.restricted.ensures) (rw (c.new-rings.ensures.0, c.new-rings.ensures.4) at c.first_match-r.ensures)

pub enters-requires : goal.enters-requires
enters-requires c = let p = c.requires in (omega (arith, c.loop-r-test.true, p.1, p.0.room.records), p.2)

pub returns-then-enters : goal.returns-then-enters
returns-then-enters c =
    seeking_found c.loop-r.invariant c.requires.1 c.loop-r-test.true c.enters.ensures c.if-enters.true

pub next_match-r-requires : goal.next_match-r-requires
next_match-r-requires c =
    let p = c.requires in
    let less = c.loop-r-test.true in
    rw (c.new-rings.ensures.0, c.new-rings.ensures.4) (omega (arith, less, p.1), c.loop-r.invariant.reading (omega (arith, less, p.1)))

pub loop-r-smaller : goal.loop-r-smaller
loop-r-smaller c = omega (arith, reads_later _ _ _ _ _ _ (rw (c.new-rings.ensures.0, c.new-rings.ensures.4) at c.next_match-r.ensures), c.loop-r-test.true)

pub loop-r-preserved : goal.loop-r-preserved
loop-r-preserved c =
    seeking_turn c.loop-r.invariant (omega (arith, c.loop-r-test.true, c.requires.1)) c.enters.ensures c.if-enters.false (rw (c.new-rings.ensures.0, c.new-rings.ensures.4) at c.next_match-r.ensures)

pub returns : goal.returns
returns c = seeking_none c.loop-r.invariant c.loop-r-test.false
