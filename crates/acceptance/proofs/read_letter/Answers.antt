-- The set that was collected takes the place of the one before (Regions).
use Rattle.table.specs.Reading.{system_in}
use Rattle.table.specs.Present.{present_in}
use Rattle.acceptance.proofs.Regions.{letter_read}
use Rattle.acceptance.proofs.read_letter.Goals as goal

pub returns : goal.returns
returns c =
    let a = c.args in
    letter_read (system_in a.table.now.bytes.now) (present_in a.table.now.counts) a.letter a.scratch.now c.clear.new.buffer c.read_members.new.scratch c.move_front.new.buffer c.requires
    c.clear.ensures c.read_members.auto.scratch c.read_members.ensures c.move_front.ensures
