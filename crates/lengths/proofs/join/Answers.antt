-- The processes below i have the letter (Turning).
use Rattle.std.proofs.Common.{arith}
use Rattle.model.proofs.Groups.{bit_low}
use Rattle.table.specs.Reading.{process_at}
use Rattle.table.proofs.Layouts.{number_at}
use Rattle.lengths.proofs.Turning.{turn_at}
use Rattle.lengths.proofs.join.Goals as goal

pub overflow_add-l : goal.overflow_add-l
overflow_add-l c =
    let p = process_at c.loop-i.i in
    omega (arith, turn_at c.loop-i.invariant c.loop-i-test.true, c.requires p, c.part.ensures p (number_at c.loop-i.i c.loop-i-test.true), bit_low)
