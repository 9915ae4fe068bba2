-- Too little scratch, then a start's word longer than the buffer, is refused before the walk begins (Outcomes).
use Rattle.walk.proofs.Outcomes.{short_halts, unfit_halts, began_halts}
use Rattle.walk.proofs.walk_accepted.Goals as goal

pub returns-then-scratch-lt-NEEDED_BY_WALK : goal.returns-then-scratch-lt-NEEDED_BY_WALK
returns-then-scratch-lt-NEEDED_BY_WALK c =
    let a = c.args in short_halts a.table.now.bytes.now a.table.now.counts a.table.now.holds a.list.now a.pile.now a.scratch.now c.if-scratch-lt-NEEDED_BY_WALK.true

pub returns-then-pile-table : goal.returns-then-pile-table
returns-then-pile-table c =
    let a = c.args in
    unfit_halts a.table.now.bytes.now a.table.now.counts a.table.now.holds a.list.now a.pile.now a.scratch.now c.clear.new.buffer c.if-scratch-lt-NEEDED_BY_WALK.false c.if-pile-table.true c.clear.ensures

pub returns : goal.returns
returns c =
    let a = c.args in
    began_halts a.table.now.bytes.now a.table.now.counts a.table.now.holds a.list.now a.pile.now a.scratch.now c.walk_placed.result c.walk_placed.new.pile c.walk_placed.new.scratch
    c.if-scratch-lt-NEEDED_BY_WALK.false c.if-pile-table.false c.walk_placed.ensures
