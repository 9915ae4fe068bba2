-- The start has the table's shape, and where the steps stop the answer, the counts and the buffers are the outcome's (Outcomes).
use Rattle.walk.proofs.Outcomes.{start_shape, placed_halts}
use Rattle.walk.proofs.walk_placed.Goals as goal

pub take_steps-stop-requires : goal.take_steps-stop-requires
take_steps-stop-requires c =
    let t = c.args.table.now in
    let placed = c.place_start-start in
    start_shape t.bytes.now t.counts t.holds placed.new.pile placed.result placed.ensures.start placed.ensures.inside

pub returns : goal.returns
returns c =
    let a = c.args in
    let placed = c.place_start-start in
    let steps = c.take_steps-stop in
    let end = c.conclude-answer in
    placed_halts a.table.now.bytes.now a.table.now.counts a.list.now a.pile.now a.scratch.now placed.result placed.new.pile steps.new.pile c.bring_front.new.pile end.new.scratch steps.result end.result
    placed.ensures.start placed.auto.pile steps.auto.pile steps.ensures end.ensures.0 end.ensures.1 c.bring_front.ensures
