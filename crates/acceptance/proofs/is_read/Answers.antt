-- The letter is the transition's, where it is asked for its processes.
use native.Mathlib.Omega.{arith}
use Rattle.table.proofs.Layouts.{transition_letter_in}
use Rattle.acceptance.proofs.is_read.Goals as goal

pub letter_bits-requires : goal.letter_bits-requires
letter_bits-requires c =
    omega (arith, c.transition_letter.ensures, transition_letter_in _ _ c.args.table.now.holds _ c.requires)
