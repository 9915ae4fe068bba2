-- The processes below i are raised (Turning).
use Rattle.std.proofs.Common.{arith}
use Rattle.table.specs.Reading.{process_at}
use Rattle.lengths.proofs.Turning.{turn_at}
use Rattle.lengths.proofs.raise.Goals as goal

pub overflow_add-h : goal.overflow_add-h
overflow_add-h c = omega (arith, turn_at c.loop-i.invariant c.loop-i-test.true, c.requires (process_at c.loop-i.i))
