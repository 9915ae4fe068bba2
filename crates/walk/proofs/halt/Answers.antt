-- Either way the outcome is the call's.
use Rattle.walk.proofs.halt.Goals as goal

pub returns-in-Ok : goal.returns-in-Ok
returns-in-Ok c = rw c.in-Ok.is at c.walk_table.ensures

pub returns-in-Err : goal.returns-in-Err
returns-in-Err c =
    let h = rw c.in-Err.is at c.walk_table.ensures in rw c.halt_before.ensures h
