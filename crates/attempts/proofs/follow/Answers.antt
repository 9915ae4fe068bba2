-- The next record that the rings give for the letter and the state.
use mathlib.Core.Path.{ap, ◌∙◌}
use Prim.Native.Nat.{ℕ, ◌+◌, ◌-◌}
use Rattle.states.specs.StateSets.{first_from}
use Rattle.rings.specs.Rings.{record_reads}
use Rattle.attempts.specs.Turns.{followed}
use Rattle.attempts.proofs.follow.Goals as goal

pub next_match-next-requires : goal.next_match-next-requires
next_match-next-requires c =
    let a = c.args in
    rw (c.new.ensures.0, c.new.ensures.4) (c.requires.1, ap (λ (m : ℕ). record_reads a.log.now a.x.letter m a.x.next) c.restricted-before.ensures ∙ c.requires.2)

pub returns : goal.returns
unfolding followed
returns c =
    let a = c.args in
    let x = a.x in
    let next = (rw (c.new.ensures.0, c.new.ensures.4) at c.next_match-next.ensures)
    ∙ ap (λ (m : ℕ). first_from (record_reads a.log.now x.letter m) (x.next + 1) (a.c.count - (x.next + 1))) c.restricted-before.ensures in
    λ i. record { place = x.place; letter = x.letter; mask = x.mask; state = x.state; next = next i; left = a.left }
