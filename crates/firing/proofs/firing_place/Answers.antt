-- The letter is searched only where the rule reads the states (Firings).
use mathlib.Core.Path.{sym, ◌∙◌}
use native.Mathlib.Omega.{arith}
use Rattle.table.proofs.Layouts.{rule_letter_in}
use Rattle.table.specs.Reading.{rule_in, system_in}
use Rattle.firing.proofs.Piles.{letter_at_lem}
use Rattle.firing.proofs.Firings.{place_found, place_none}
use Rattle.firing.proofs.firing_place.Goals as goal

pub returns-then-not-reads : goal.returns-then-not-reads
returns-then-not-reads c =
    let e = place_none (system_in c.args.table.now.bytes.now).loc (rule_in c.args.table.now.bytes.now c.args.k) c.args.pile.now c.args.c (rw (← c.rule_bits.ensures.same, ← c.rule_before.ensures) (sym c.reads.ensures ∙ c.if-not-reads.true)) in
    omega (arith, e)

pub find-requires : goal.find-requires
find-requires c =
    (omega (arith, c.rule_letter.ensures, rule_letter_in _ _ c.args.table.now.holds _ c.requires.0), c.requires.1.inside, λ j. letter_at_lem _ _ _ j c.requires.1.letters)

pub returns : goal.returns
returns c =
    place_found _ _ _ _ _ _ (rw (← c.rule_bits.ensures.same, ← c.rule_before.ensures) (sym c.reads.ensures ∙ c.if-not-reads.false)) (rw c.rule_letter.ensures at c.find.ensures)
