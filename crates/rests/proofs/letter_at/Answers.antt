-- A letter of the start word, with its processes.
use native.Mathlib.Omega.{arith}
use Rattle.table.proofs.Layouts.{pile_letter_in}
use Rattle.rests.proofs.letter_at.Goals as goal

pub letter_bits-bits-requires : goal.letter_bits-bits-requires
letter_bits-bits-requires c =
    let a = c.args in
    omega (arith, c.from.ensures, c.pile_letter-number.ensures, pile_letter_in a.table.now.bytes.now a.table.now.counts c.args.table.now.holds a.i c.requires)

pub returns : goal.returns
returns c =
    let letter = c.pile_letter-number.ensures in
    record { number = letter; bits = rw (c.from.ensures, letter) at c.letter_bits-bits.ensures }
