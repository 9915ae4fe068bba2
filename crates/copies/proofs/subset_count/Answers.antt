-- The list of sixteen numbers holds the counts (Groups).
use Rattle.copies.proofs.Groups.{counted}
use Rattle.copies.proofs.subset_count.Goals as goal

pub returns : goal.returns
returns c = rw c.from.ensures (counted c.args.bits c.requires)
