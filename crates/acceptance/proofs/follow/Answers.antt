-- A transition that reads the letter puts in its target, any other nothing (Sets).
use mathlib.Core.Path.{◌∙◌, sym}
use Rattle.table.proofs.Configurations.{move_over}
use Rattle.acceptance.proofs.Sets.{follow_in, follow_out}
use Rattle.acceptance.proofs.follow.Goals as goal

pub returns-then-is_read : goal.returns-then-is_read
returns-then-is_read c =
    let h = c.requires in
    rw c.insert.ensures (follow_in _ _ _ _ _ _ _ h.2 (move_over _ _ c.args.table.now.holds _ _ h.0 h.1) c.target.ensures.0 (sym c.is_read.ensures ∙ c.if-is_read.true))

pub returns-else-is_read : goal.returns-else-is_read
returns-else-is_read c = follow_out _ _ _ _ _ _ (sym c.is_read.ensures ∙ c.if-is_read.false)
