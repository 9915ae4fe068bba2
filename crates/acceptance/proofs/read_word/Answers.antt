-- The set accepts the rest of the word just where the first set accepts the whole (Regions).
use Rattle.acceptance.proofs.Regions.{ahead_turn, ahead_end}
use Rattle.acceptance.proofs.read_word.Goals as goal

pub loop-letter-preserved : goal.loop-letter-preserved
loop-letter-preserved c =
    ahead_turn _ _ _ _ _ _ _ c.loop-letter-test.true c.read_letter.auto.scratch c.loop-letter.invariant c.read_letter.ensures

pub returns : goal.returns
returns c = ahead_end _ _ _ _ _ _ c.loop-letter-test.false c.loop-letter.invariant
