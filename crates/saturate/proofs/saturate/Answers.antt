-- Round 0 is written, the scratch made ready, and the rounds added (Saturating).
use Rattle.saturate.proofs.Saturating.{initial_begins, initial_full}
use Rattle.saturate.proofs.saturate.Goals as goal

pub returns-then-n-count : goal.returns-then-n-count
returns-then-n-count c =
    let e = c.write_initial-count.ensures in
    initial_full _ _ _ _ (c.args.table.now.holds, c.requires.0, c.requires.1) (e.value, (e.log_after, e.scratch_len_unchanged)) c.if-n-count.true

pub add_rounds-requires : goal.add_rounds-requires
add_rounds-requires c =
    let e = c.write_initial-count.ensures in
    initial_begins c.args.log.now c.args.scratch.now _ _ (c.args.table.now.holds, c.requires.0, c.requires.1) (e.value, (e.log_after, e.scratch_len_unchanged)) c.if-n-count.false c.prepare.ensures
