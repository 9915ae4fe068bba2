-- The rules are ordered, their positions noted, the passed states cleared, and the rings and the index emptied.
use Rattle.saturate.proofs.ScratchParts.{scratch_ready}
use Rattle.saturate.proofs.rounds.prepare.Goals as goal

pub returns : goal.returns
returns c =
    let is = c.keys_at.ensures in
    scratch_ready c.args.table.now.holds c.order_rules.ensures c.mark_writers.ensures c.clear_part.ensures c.clear.ensures.0
    c.clear.ensures.1 (rw is at c.clear-2.ensures.0) (rw is at c.clear-2.ensures.1)
