-- The walk begins at the tail's link, the bucket's least record; with no tail there is none (Walking).
use Rattle.rings.specs.Rings.{record_reads}
use Rattle.states.specs.StateSets.{first_from}
use Rattle.rings.proofs.Walking.{empty_first, walks_head, walks_first}
use Prim.Native.Nat.{ℕ}
use mathlib.Core.Path.{ap, ◌∙◌}
use native.Mathlib.Omega.{arith}
use Rattle.rings.proofs.kept.Rings.first_match.Goals as goal

pub returns-then-self-eq0 : goal.returns-then-self-eq0
unfolding first_from
returns-then-self-eq0 c = rw c.if-self-eq0.true

pub returns-then-t-eq-NO_LINK : goal.returns-then-t-eq-NO_LINK
returns-then-t-eq-NO_LINK c =
    let a = c.args in
    let p = c.requires in
    empty_first a.letter a.g c.args.self.now.ringed c.bucket.ensures c.link_at-t.ensures.0 0 (omega arith) c.args.self.now.room.fits c.args.self.now.room.short c.if-t-eq-NO_LINK.true
    ∙ ap (λ (k : ℕ). first_from (record_reads a.self.now.log.now a.letter a.g) 0 k) (omega arith)

pub follow-requires : goal.follow-requires
follow-requires c =
    let a = c.args in
    let p = c.requires in
    let w = walks_head a.letter a.g c.args.self.now.ringed c.bucket.ensures c.link_at-t.ensures.0 c.if-t-eq-NO_LINK.false c.link_at-start.ensures.0 in
    (w.below, w.bucket)

pub returns : goal.returns
returns c =
    let a = c.args in
    let w = walks_head a.letter a.g c.args.self.now.ringed c.bucket.ensures c.link_at-t.ensures.0 c.if-t-eq-NO_LINK.false c.link_at-start.ensures.0 in
    walks_first w c.follow.ensures ∙ ap (λ (k : ℕ). first_from (record_reads a.self.now.log.now a.letter a.g) 0 k) (omega arith)
