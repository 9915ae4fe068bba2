-- The transition's letter is one of the table's.
use native.Mathlib.Omega.{arith}
use Rattle.table.proofs.Layouts.{transition_letter_in}
use Rattle.acceptance.proofs.target.Goals as goal

pub letter_bits-bits-requires : goal.letter_bits-bits-requires
letter_bits-bits-requires c =
    omega (arith, c.transition_letter.ensures, transition_letter_in _ _ c.args.table.now.holds _ c.requires)
