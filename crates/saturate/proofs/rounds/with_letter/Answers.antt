-- The bit of the letter is set, the others stay.
use Rattle.model.specs.Records.{letter_at}
use Rattle.saturate.proofs.ScratchParts.{letter_set}
use Rattle.saturate.proofs.rounds.with_letter.Goals as goal

pub returns : goal.returns
returns c = let a = c.args in letter_set a.letters (letter_at a.log.now a.r) c.letter_at.result c.letter_at.ensures
