-- The word copied to the front and zeroes behind it fill the buffer (Placing).
use Rattle.steps.proofs.Placing.{brought_front}
use Rattle.steps.proofs.bring_front.Goals as goal

pub returns : goal.returns
returns c =
    brought_front c.args.pile.now c.args.top c.move_front.new.buffer c.clear.new.buffer c.requires c.move_front.ensures c.clear.ensures
