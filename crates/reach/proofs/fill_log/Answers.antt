-- The log of the limit and then zeros, or both calls are refused.
use native.Mathlib.Omega.{arith}
use Rattle.reach.proofs.Answering.{full_refused, short_refused}
use Rattle.reach.proofs.Filling.{behind_room, limit_left, none_left, rounds_few}
use Rattle.reach.proofs.fill_log.Goals as goal

pub returns-then-scratch-room : goal.returns-then-scratch-room
returns-then-scratch-room c = short_refused c.args.table.now.holds c.records_in-room.ensures c.if-scratch-room.true

pub returns-in-Err : goal.returns-in-Err
returns-in-Err c =
    full_refused c.args.table.now.holds c.records_in-room.ensures c.if-scratch-room.false
    (none_left (rw c.in-Err.is at c.saturate.ensures) c.clear.ensures c.clear-in-Err.ensures)

pub clear_behind-requires : goal.clear_behind-requires
clear_behind-requires c =
    behind_room c.args.table.now.holds (record { log_room = c.records_in-room.ensures; scratch_room = c.if-scratch-room.false }) (rw c.in-Ok.is at c.saturate.ensures)

pub overflow_cast-result : goal.overflow_cast-result
overflow_cast-result c =
    omega (arith, rounds_few c.args.table.now.holds (record { log_room = c.records_in-room.ensures; scratch_room = c.if-scratch-room.false }) (rw c.in-Ok.is at c.saturate.ensures))

pub returns-in-Ok : goal.returns-in-Ok
returns-in-Ok c =
    limit_left c.args.table.now.holds (record { log_room = c.records_in-room.ensures; scratch_room = c.if-scratch-room.false }) (rw c.in-Ok.is at c.saturate.ensures) c.clear_behind.ensures
