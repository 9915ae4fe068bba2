-- A group with 0 at the processes that the table lacks.
use Rattle.model.specs.Groups.{merge}
use Rattle.rests.proofs.zeroed.Goals as goal

pub returns : goal.returns
unfolding merge
returns c =
    λ i. record { s0 = c.chosen.ensures i; s1 = c.chosen-2.ensures i; s2 = c.chosen-3.ensures i; s3 = c.chosen-4.ensures i }
