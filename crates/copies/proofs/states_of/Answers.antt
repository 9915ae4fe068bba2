-- A number of states fits a byte (Groups).
use native.Mathlib.Omega.{arith}
use Rattle.copies.proofs.Groups.{states_byte}
use Rattle.copies.proofs.states_of.Goals as goal

pub overflow_cast-result : goal.overflow_cast-result
overflow_cast-result c =
    omega (arith, c.local_states.ensures, states_byte c.args.table.now.bytes.now c.args.table.now.counts c.args.table.now.holds c.args.i c.requires c.if-i-table.true)
