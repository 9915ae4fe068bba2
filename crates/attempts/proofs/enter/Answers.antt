-- The first record that the rings give for the letter and the state.
use mathlib.Core.Path.{ap, ap₂, ◌∙◌}
use Prim.Native.Nat.{ℕ}
use Rattle.states.specs.StateSets.{first_from}
use Rattle.packs.specs.Packs.{mask_of, packed_restrict}
use Rattle.rings.specs.Rings.{record_reads}
use Rattle.attempts.specs.Turns.{entered}
use Rattle.attempts.proofs.enter.Goals as goal

pub returns : goal.returns
unfolding entered
returns c =
    let a = c.args in
    let log = a.log.now in
    let letter = c.letter_at-a.ensures in
    let mask = c.mask_of-mask.ensures ∙ ap mask_of letter.bits.same in
    let next = (rw (c.new.ensures.0, c.new.ensures.4) at c.first_match-next.ensures)
    ∙ ap₂ (λ (b m : ℕ). first_from (record_reads log b m) 0 a.c.count) letter.number (c.restricted-before.ensures ∙ ap (λ (m : ℕ). packed_restrict m a.state) mask) in
    λ i. record { place = a.place; letter = letter.number i; mask = mask i; state = a.state; next = next i; left = a.left }
