-- The bound of all states is the number that the system has (Layouts).
use mathlib.Core.Path.{sym, ◌∙◌}
use native.Mathlib.Omega.{arith}
use Rattle.table.proofs.Layouts.{table_heads, states_at}
use Rattle.table.proofs.accepted.Accepted.local_states.Goals as goal

pub bound_of-requires : goal.bound_of-requires
bound_of-requires c = (table_heads c.args.self.now.bytes.now c.args.self.now.counts c.args.self.now.holds, omega arith)

pub returns : goal.returns
returns c =
    c.bound_of.ensures ∙ sym (states_at c.args.self.now.bytes.now c.args.self.now.counts c.args.self.now.holds c.args.i c.requires)
