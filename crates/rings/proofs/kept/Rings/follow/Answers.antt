-- No record passed over reads the letter; a link that does not rise is the ring's end (Walking).
use Rattle.rings.proofs.Walking.{walks_turn, walks_none, walks_end}
use mathlib.Core.Path.{sym, ◌∙◌}
use Rattle.rings.proofs.kept.Rings.follow.Goals as goal

pub returns-then-next-r : goal.returns-then-next-r
returns-then-next-r c =
    walks_none c.args.self.now.ringed c.loop-next.invariant (sym c.matches.ensures ∙ c.loop-next-test.true) c.link_at-next.ensures.0 c.if-next-r.true

pub loop-next-preserved : goal.loop-next-preserved
loop-next-preserved c =
    walks_turn c.args.self.now.ringed c.loop-next.invariant (sym c.matches.ensures ∙ c.loop-next-test.true) c.link_at-next.ensures.0 c.if-next-r.false

pub returns : goal.returns
returns c = walks_end c.loop-next.invariant (sym c.matches.ensures ∙ c.loop-next-test.false)
