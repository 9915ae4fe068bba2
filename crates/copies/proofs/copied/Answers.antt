-- Each process has the copy of its state or 255, as its bit chooses.
use Rattle.model.specs.Copies.{copies}
use Rattle.model.specs.Groups.{p0, p1, p2, p3, restrict}
use Rattle.copies.proofs.copied.Goals as goal

pub copied_state-requires : goal.copied_state-requires
copied_state-requires c = c.requires p0

pub copied_state-requires-2 : goal.copied_state-requires-2
copied_state-requires-2 c = c.requires p1

pub copied_state-requires-3 : goal.copied_state-requires-3
copied_state-requires-3 c = c.requires p2

pub copied_state-requires-4 : goal.copied_state-requires-4
copied_state-requires-4 c = c.requires p3

pub returns : goal.returns
unfolding restrict copies
returns c = simp (← c.copied_state-4.ensures, ← c.copied_state-3.ensures, ← c.copied_state-2.ensures, ← c.copied_state.ensures)
