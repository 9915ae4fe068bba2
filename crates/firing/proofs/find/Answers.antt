-- The letters passed over are other ones and apart; one that is neither ends the search (Scans).
use mathlib.Core.Path.{sym, ◌∙◌}
use native.Mathlib.Omega.{arith}
use Rattle.firing.proofs.Scans.{finding_here, finding_blocked, finding_turn}
use Rattle.firing.proofs.find.Goals as goal

pub returns-then-pile-p : goal.returns-then-pile-p
returns-then-pile-p c =
    let here = finding_here _ _ _ _ _ c.loop-p.invariant c.loop-p-test.true c.if-pile-p.true in
    (here, omega arith)

pub returns-then-not-is_apart : goal.returns-then-not-is_apart
returns-then-not-is_apart c =
    omega (arith, finding_blocked _ _ _ _ _ c.loop-p.invariant c.loop-p-test.true c.if-pile-p.false (rw (← c.from.ensures, ← c.letter_bits-bits.ensures.same) (sym c.is_apart.ensures ∙ c.if-not-is_apart.true)))

pub loop-p-preserved : goal.loop-p-preserved
loop-p-preserved c =
    finding_turn _ _ _ _ _ c.loop-p.invariant c.loop-p-test.true c.if-pile-p.false (rw (← c.from.ensures, ← c.letter_bits-bits.ensures.same) (sym c.is_apart.ensures ∙ c.if-not-is_apart.false))
