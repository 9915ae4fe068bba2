-- The states of one process that are gone through.
use Rattle.restsets.proofs.groups.extent.Goals as goal

pub returns-else-own : goal.returns-else-own
returns-else-own c = rw c.if-own.false
