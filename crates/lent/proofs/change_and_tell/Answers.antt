-- The function of the answer may be called on what the call by value answers.
use Rattle.lent.proofs.change_and_tell.Goals as goal

pub tell-requires : goal.tell-requires
tell-requires g c = c.requires.tells _ _ c.by-left.ensures
