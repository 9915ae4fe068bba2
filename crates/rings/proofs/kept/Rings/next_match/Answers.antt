-- The walk begins at the record's link; after the ring's greatest record there is none (Walking).
use native.Mathlib.Numerals.{add-one}
use Rattle.rings.proofs.Links.{reads_bucket}
use Rattle.rings.proofs.Walking.{last_first, walks_next, walks_first}
use Rattle.rings.proofs.kept.Rings.next_match.Goals as goal

pub returns-then-start-r : goal.returns-then-start-r
returns-then-start-r c =
    let a = c.args in
    let p = c.requires in
    let b = reads_bucket a.self.now.log.now a.self.now.n a.letter a.g a.r p.1 in
    rw (add-one a.r) (last_first a.letter a.g c.args.self.now.ringed p.0 b c.link_at-start.ensures.0 c.if-start-r.true)

pub follow-requires : goal.follow-requires
follow-requires c =
    let a = c.args in
    let p = c.requires in
    let b = reads_bucket a.self.now.log.now a.self.now.n a.letter a.g a.r p.1 in
    let w = walks_next a.letter a.g c.args.self.now.ringed p.0 b c.link_at-start.ensures.0 c.if-start-r.false in
    (w.below, w.bucket)

pub returns : goal.returns
returns c =
    let a = c.args in
    let p = c.requires in
    let b = reads_bucket a.self.now.log.now a.self.now.n a.letter a.g a.r p.1 in
    let w = walks_next a.letter a.g c.args.self.now.ringed p.0 b c.link_at-start.ensures.0 c.if-start-r.false in
    rw (add-one a.r) (walks_first w c.follow.ensures)
