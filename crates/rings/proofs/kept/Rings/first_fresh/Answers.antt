-- The walk begins at the bucket's first fresh record; with no tail from there on there is none (Walking).
use Rattle.rings.proofs.Walking.{zero_first, empty_first, stale_first, walks_fresh, walks_first}
use Rattle.rings.proofs.kept.Rings.first_fresh.Goals as goal
use Rattle.rings.proofs.kept.Rings.first_fresh.Goals.{then-t-eq-NO_LINK-via-then-t-eq-NO_LINK, then-t-eq-NO_LINK-via-else-t-eq-NO_LINK+then-t-lo}

pub returns-then-self-eq0 : goal.returns-then-self-eq0
returns-then-self-eq0 c = zero_first _ _ _ c.if-self-eq0.true c.requires.1

pub returns-then-t-eq-NO_LINK : goal.returns-then-t-eq-NO_LINK
returns-then-t-eq-NO_LINK c =
    let a = c.args in
    let p = c.requires in
    elim c.then-t-eq-NO_LINK.branch [
      | then-t-eq-NO_LINK-via-then-t-eq-NO_LINK w ↦ empty_first a.letter a.g c.args.self.now.ringed c.bucket-h.ensures c.link_at-t.ensures.0 a.lo p.1 c.args.self.now.room.fits c.args.self.now.room.short w.if-t-eq-NO_LINK.true
      | then-t-eq-NO_LINK-via-else-t-eq-NO_LINK+then-t-lo w ↦ stale_first a.letter a.g c.args.self.now.ringed c.bucket-h.ensures c.link_at-t.ensures.0 w.if-t-eq-NO_LINK.false p.1 w.if-t-lo.true
    ]

pub follow-requires : goal.follow-requires
follow-requires c =
    let p = c.requires in
    let w = walks_fresh c.args.letter c.args.g c.args.self.now.ringed c.bucket-h.ensures c.link_at-t.ensures.0 c.if-t-eq-NO_LINK.false p.0 c.if-t-lo.false c.link_at-start.ensures.0 in
    (w.below, w.bucket)

pub returns : goal.returns
returns c =
    let w = walks_fresh c.args.letter c.args.g c.args.self.now.ringed c.bucket-h.ensures c.link_at-t.ensures.0 c.if-t-eq-NO_LINK.false c.requires.0 c.if-t-lo.false c.link_at-start.ensures.0 in
    walks_first w c.follow.ensures
