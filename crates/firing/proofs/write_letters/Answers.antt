-- The letters so far are written (Writing).
use Rattle.std.proofs.Common.{◌≡◌, refl, ap, arith, length}
use mathlib.Core.Path.{◌∙◌}
use lib.Seq.{paste}
use Rattle.buffers.proofs.Writing.{pasting_start, pasting_turn}
use Rattle.firing.proofs.write_letters.Goals as goal

pub loop-j-init : goal.loop-j-init
loop-j-init c = pasting_start c.args.pile.now c.args.written.now c.args.at

pub loop-j-preserved : goal.loop-j-preserved
loop-j-preserved c =
    let a = c.args in
    pasting_turn a.pile.now a.written.now a.at c.loop-j.pile c.loop-j.j _ c.loop-j.invariant (omega (arith, c.requires, c.loop-j-test.true)) c.loop-j-test.true refl

pub returns : goal.returns
returns c =
    let a = c.args in
    let all : c.loop-j.j ≡ length a.written.now = omega (arith, c.loop-j-test.false, c.loop-j.auto.j-end) in
    c.loop-j.invariant.is ∙ ap (paste a.pile.now a.at a.written.now) all
