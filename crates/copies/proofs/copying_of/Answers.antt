-- The four numbers and the test together (Groups).
use Rattle.copies.proofs.Groups.{copying_is}
use Rattle.copies.proofs.copying_of.Goals as goal

pub returns : goal.returns
returns c =
    copying_is c.args.table.now.bytes.now c.args.table.now.counts _ c.is_reentered.ensures c.states_of.ensures c.states_of-2.ensures c.states_of-3.ensures c.states_of-4.ensures
