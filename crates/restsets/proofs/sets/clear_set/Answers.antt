-- A set is cleared.
use Rattle.restsets.proofs.ScratchRegions.{set_cleared}
use Rattle.restsets.proofs.sets.clear_set.Goals as goal

pub returns : goal.returns
returns c =
    let a = c.args in
    set_cleared a.scratch.now a.at c.clear.new.buffer c.requires c.clear.ensures
