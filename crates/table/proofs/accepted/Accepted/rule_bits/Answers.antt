-- The bits of the rule's letter.
use mathlib.Core.Path.{ap, ◌∙◌}
use Rattle.table.specs.Reading.{system_in}
use Rattle.table.proofs.Layouts.{rule_letter_in}
use native.Mathlib.Omega.{arith}
use Rattle.table.proofs.accepted.Accepted.rule_bits.Goals as goal

pub letter_bits-requires : goal.letter_bits-requires
letter_bits-requires c =
    omega (arith, c.from.ensures, c.rule_letter-a.ensures, rule_letter_in _ _ c.args.self.now.holds _ c.requires)

pub returns : goal.returns
returns c =
    record { same = c.letter_bits.ensures.same ∙ ap (system_in c.args.self.now.bytes.now).loc (c.from.ensures ∙ c.rule_letter-a.ensures); small = c.letter_bits.ensures.small }
