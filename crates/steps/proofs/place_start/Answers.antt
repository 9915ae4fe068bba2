-- The start's word written to the buffer's end, with its states, is the start (Placing).
use Rattle.table.proofs.Layouts.{pile_count}
use Rattle.steps.proofs.Placing.{placed_start}
use Rattle.steps.proofs.place_start.Goals as goal

pub returns : goal.returns
returns c = placed_start _ _ _ _ _ (pile_count _ _ c.args.table.now.holds) c.requires c.start_group.ensures c.write_start.ensures
