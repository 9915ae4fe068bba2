-- The rows of a record in turn.
use Rattle.wordsets.proofs.WordSets.{record_start, record_turn}
use Rattle.wordsets.proofs.add_record.Goals as goal

pub loop-h-init : goal.loop-h-init
loop-h-init c = let a = c.args in record_start a.from a.to a.y a.x a.rest a.words a.s.now

pub loop-h-preserved : goal.loop-h-preserved
loop-h-preserved c =
    let p = c.requires in
    record_turn c.loop-h.common c.add_row-common.result p.0 p.1 c.loop-h-test.true c.loop-h.invariant c.add_row-common.ensures
