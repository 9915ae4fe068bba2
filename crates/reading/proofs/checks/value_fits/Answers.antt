-- The bits of a letter are below the power of the number of processes.
use Rattle.model.specs.Tables.{value_fits}
use Rattle.table.proofs.Bodies.{bodies_length}
use Rattle.reading.proofs.checks.value_fits.Goals as goal

pub returns-in-Letter : goal.returns-in-Letter
unfolding value_fits
returns-in-Letter c = simp (c.in-Letter.is, bodies_length, c.letter_fits.ensures)
