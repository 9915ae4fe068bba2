-- A set is cleared, and filled from that of the next rest.
use mathlib.Core.Path.{◌∙◌}
use Rattle.restsets.proofs.Filling.{filling_addable, filling_chained, filling_end}
use Rattle.restsets.proofs.sets.fill_set.Goals as goal

pub letter_at-a-requires : goal.letter_at-a-requires
letter_at-a-requires c = let p = c.requires in p.inside

pub clear_set-requires : goal.clear_set-requires
clear_set-requires c = c.requires.apart.to_room

pub add_groups-requires : goal.add_groups-requires
add_groups-requires c =
    let p = c.requires in
    let letter = c.letter_at-a.ensures in
    let cleared = c.clear_set.ensures in
    (filling_addable p letter cleared c.frame_of-f.ensures, filling_chained p letter cleared c.frame_of-f.ensures)

pub shape_of-scratch : goal.shape_of-scratch
shape_of-scratch c = c.add_groups.ensures.same.size ∙ c.clear_set.ensures.0.size

pub returns : goal.returns
returns c =
    filling_end c.requires c.letter_at-a.ensures c.clear_set.ensures c.frame_of-f.ensures c.add_groups.ensures
