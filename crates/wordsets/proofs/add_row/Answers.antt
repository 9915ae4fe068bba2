-- The words of a row in turn.
use native.Mathlib.Omega.{arith}
use Rattle.wordsets.proofs.WordSets.{adding_start, adding_turn}
use Rattle.wordsets.proofs.add_row.Goals as goal

pub loop-w-init : goal.loop-w-init
loop-w-init c =
    let a = c.args in
    adding_start a.from a.to a.y a.x a.rest a.low a.s.now (λ m. omega (arith, c.type_inv.s m))

pub loop-w-preserved : goal.loop-w-preserved
loop-w-preserved c =
    rw (c.add_word-word.ensures.0, c.add_word-word.ensures.1) (adding_turn c.requires.0 c.loop-w-test.true c.requires.2 c.requires.3 c.loop-w.invariant)
