-- The letters moved on and the others written in front make the rewritten word (Piles).
use Rattle.firing.proofs.Piles.{closed_written}
use Rattle.firing.proofs.rewrite.Goals as goal

pub returns : goal.returns
returns c = rw (c.write_letters.ensures, c.close_gap.ensures) (closed_written _ _ _ _ c.requires.0 c.requires.1 c.requires.2)
