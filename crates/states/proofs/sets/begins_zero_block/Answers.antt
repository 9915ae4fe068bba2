-- Where all bytes of the block are zero, none of its numbers is a member (StateSets).
use native.Mathlib.Omega.{arith}
use Rattle.std.proofs.lemmas.Grind.{common_steps}
use Rattle.states.proofs.StateSets.{zero_block}
use Rattle.states.proofs.sets.begins_zero_block.Goals as goal

pub returns-then-n-eq0 : goal.returns-then-n-eq0
returns-then-n-eq0 c e = zero_block c.args.members.now c.args.n c.requires.0 c.if-n-eq0.true (λ i h. grind (arith, common_steps, c.is_zero.ensures.0 e i))
