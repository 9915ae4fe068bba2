-- The letters of the start so far stand in the buffer, one after the other.
use Rattle.table.specs.Reading.{system_in}
use Rattle.buffers.proofs.Writing.{Pasting}
use Rattle.steps.proofs.write_start.Given as goal

abbrev pub invariant-loop-j : goal.invariant-loop-j
invariant-loop-j l = Pasting l.initial.pile (system_in l.table.bytes.now).start.word l.at l.pile l.j
