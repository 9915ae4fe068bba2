-- The test of the states after is the definition's (Groups).
use mathlib.Core.Path.{◌∙◌}
use Rattle.table.specs.Reading.{transition_in}
use Rattle.table.proofs.Layouts.{table_heads, transition_letter_in}
use Rattle.copies.proofs.Groups.{leaves_at}
use Rattle.copies.proofs.leaves.Goals as goal

pub letter_bits-bits-requires : goal.letter_bits-bits-requires
letter_bits-bits-requires c =
    rw (c.from.ensures, c.transition_letter-a.ensures) (transition_letter_in c.args.table.now.bytes.now c.args.table.now.counts c.args.table.now.holds c.args.k c.requires)

pub leaves_control-requires : goal.leaves_control-requires
leaves_control-requires c = table_heads c.args.table.now.bytes.now c.args.table.now.counts c.args.table.now.holds

pub returns : goal.returns
returns c =
    leaves_at c.args.table.now.bytes.now c.args.table.now.counts c.args.table.now.holds (transition_in c.args.table.now.bytes.now c.args.k) _ _ _ _ (c.from.ensures ∙ c.transition_letter-a.ensures)
    c.letter_bits-bits.ensures c.transition_after.ensures c.leaves_control.ensures
