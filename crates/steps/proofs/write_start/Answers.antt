-- The letters of the start so far stand in the buffer, one after the other.
use native.Mathlib.Omega.{arith}
use Rattle.table.proofs.Layouts.{pile_count}
use Rattle.buffers.proofs.Writing.{pasting_turn}
use Rattle.steps.proofs.write_start.Goals as goal

pub loop-j-preserved : goal.loop-j-preserved
loop-j-preserved c =
    pasting_turn _ _ _ _ _ _ c.loop-j.invariant (omega (arith, c.requires)) (omega (arith, pile_count _ _ c.args.table.now.holds)) c.pile_letter.ensures
