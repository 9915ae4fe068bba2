-- The last record's letter, number and states before give back where the attempt stood.
use mathlib.Core.Path.{ap, ap₂, ◌∙◌}
use Prim.Native.Nat.{ℕ, ◌-◌}
use Rattle.packs.specs.Packs.{mask_of, packed_before, packed_merge}
use Rattle.attempts.specs.Turns.{returned}
use Rattle.attempts.proofs.return_back.Goals as goal

pub returns : goal.returns
unfolding returned
returns c =
    let a = c.args in
    let letter = c.letter_at-a.ensures in
    let mask = c.mask_of-mask.ensures ∙ ap mask_of letter.bits.same in
    let next = c.number_at-next.ensures in
    let state = c.merged.ensures ∙ ap₂ (λ (m b : ℕ). packed_merge m b a.x.state) mask (c.before_at-before.ensures ∙ ap (packed_before a.log.now) next) in
    λ i. record { place = a.x.place - 1; letter = letter.number i; mask = mask i; state = state i; next = next i; left = a.x.left }
