-- The letters below i have their bits.
use native.Mathlib.Omega.{arith}
use Rattle.restsets.proofs.Filling.{letters_more}
use Rattle.restsets.proofs.word_letters.Goals as goal

pub loop-i-init : goal.loop-i-init
loop-i-init c = (omega arith, λ i h. absurd (omega arith))

pub letter_at-a-requires : goal.letter_at-a-requires
letter_at-a-requires c = c.loop-i-test.true

pub overflow_shl-letters : goal.overflow_shl-letters
overflow_shl-letters c = omega arith

pub loop-i-preserved : goal.loop-i-preserved
loop-i-preserved c =
    (omega (arith, c.loop-i-test.true), letters_more _ _ _ _ c.loop-i.invariant.1 c.letter_at-a.ensures.number)

pub returns : goal.returns
returns c = let inv = c.loop-i.invariant in λ i h. inv.1 i (omega (arith, c.loop-i-test.false))
