-- The steps of a walk, rule after rule, and who took part in them.
use mathlib.Core.Path.{◌≡◌, ◌∙◌, ap}
use native.Mathlib.Omega.{arith}
use lib.ListN.{length}
use Rattle.std.specs.Prelude.{Ok, Err}
use Rattle.walk.proofs.Going.{going_start, going_turn, going_refused, going_end}
use Rattle.walk.proofs.take_steps.Goals as goal

pub loop-k-init : goal.loop-k-init
loop-k-init c =
    let a = c.args in going_start a.table.now.bytes.now a.table.now.counts a.list.now a.pile.now a.start c.requires

pub take_step-requires : goal.take_step-requires
take_step-requires c = c.loop-k.invariant.shape

pub shape_of-pile-in-Err : goal.shape_of-pile-in-Err
shape_of-pile-in-Err c =
    c.take_step.auto.pile ∙ c.loop-k.invariant.size

pub returns-in-Err : goal.returns-in-Err
returns-in-Err c =
    let a = c.args in
    let m = c.loop-k in
    let step = c.take_step in
    let number = c.in-Err.number in
    let e : step.result ≡ Err number = c.in-Err.is in
    let told = rw e at step.ensures in
    going_refused a.table.now.bytes.now a.table.now.counts a.list.now a.pile.now a.start m.pile step.new.pile m.placed m.counts step.new.counts m.k c.from.result number
    c.loop-k-test.true c.from.ensures m.invariant told.0 told.1

pub loop-k-preserved : goal.loop-k-preserved
loop-k-preserved c =
    let a = c.args in
    let m = c.loop-k in
    let step = c.take_step in
    let f = c.in-Ok.fired in
    let e : step.result ≡ Ok f = c.in-Ok.is in
    let told = rw e at step.ensures in
    going_turn a.table.now.bytes.now a.table.now.counts a.list.now a.pile.now a.start m.pile step.new.pile m.placed f m.counts step.new.counts m.k c.from.result _
    c.loop-k-test.true (omega arith) c.from.ensures m.invariant told.0 told.1

pub shape_of-pile : goal.shape_of-pile
shape_of-pile c =
    c.loop-k.invariant.size

pub returns : goal.returns
returns c =
    let a = c.args in
    going_end a.table.now.bytes.now a.table.now.counts a.list.now a.pile.now a.start c.loop-k.pile c.loop-k.placed c.loop-k.counts c.loop-k.k c.loop-k-test.false c.loop-k.invariant
