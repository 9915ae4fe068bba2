-- The second region takes in what the letter leads to, and the first stays (Sets, Regions).
use mathlib.Core.Path.{◌≡◌, refl, ◌∙◌}
use native.Mathlib.Omega.{arith}
use lib.ListN.{length}
use Rattle.states.specs.StateSets.{set_length}
use Rattle.states.proofs.StateNumbers.{numbered_over}
use Rattle.acceptance.proofs.Regions.{there_here, there_there, length_there}
use Rattle.acceptance.proofs.read_member.Goals as goal

pub follow_all-requires : goal.follow_all-requires
follow_all-requires c =
    (rw c.state_at.ensures (numbered_over _ _), length_there c.args.scratch.now c.requires.1)

pub returns : goal.returns
returns c =
    let s = c.args.scratch.now in
    let ys = c.follow_all.new.next in
    let size : length ys ≡ set_length = c.follow_all.auto.next ∙ length_there s c.requires.1 in
    let first = there_here s ys (omega (arith, c.requires.1)) in
    (first, rw (c.next_member.ensures, first) refl, rw (there_there s ys (omega (arith, c.requires.1)) size, ← c.state_at.ensures) c.follow_all.ensures)
