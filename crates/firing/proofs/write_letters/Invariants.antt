-- The letters so far are written (Writing).
use Rattle.buffers.proofs.Writing.{Pasting}
use Rattle.firing.proofs.write_letters.Given as goal

abbrev pub invariant-loop-j : goal.invariant-loop-j
invariant-loop-j l = Pasting l.initial.pile l.written l.at l.pile l.j
