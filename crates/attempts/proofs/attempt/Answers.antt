-- Turn after turn, until one ends it (Attempting). The tries left, 65 times, and the place fall together: a try takes one off the tries and goes on by one place at most,
-- a step back takes one off the place.
use mathlib.Core.Path.{◌≡◌, ap, ◌∙◌}
use native.Mathlib.Omega.{arith}
use Rattle.packs.specs.Packs.{packed}
use Rattle.rests.specs.Rests.{processes_of_table, zeroed_group}
use Rattle.attempts.proofs.Attempting.{attempting_end, attempting_falls, attempting_start, attempting_turn}
use Rattle.attempts.proofs.attempt.Goals as goal

pub enter-x-requires : goal.enter-x-requires
enter-x-requires c =
    let w = c.requires in
    (omega (arith, w.some, w.inside), w.scoped.linked)

pub loop-y-init : goal.loop-y-init
loop-y-init c = attempting_start _ _ c.enter-x.ensures

pub take_turn-requires : goal.take_turn-requires
take_turn-requires c =
    let state_is : c.pack-state.result ≡ packed (zeroed_group (processes_of_table c.args.table.now.counts) c.args.g) = c.pack-state.ensures.0 ∙ ap packed c.zeroed.ensures in
    (c.args.g, c.loop-y.invariant.way c.args.g c.requires state_is)

pub loop-y-smaller : goal.loop-y-smaller
loop-y-smaller c =
    let state_is : c.pack-state.result ≡ packed (zeroed_group (processes_of_table c.args.table.now.counts) c.args.g) = c.pack-state.ensures.0 ∙ ap packed c.zeroed.ensures in
    attempting_falls c.loop-y.invariant c.take_turn.ensures c.requires state_is c.in-Continue.is

pub loop-y-preserved : goal.loop-y-preserved
loop-y-preserved c =
    let state_is : c.pack-state.result ≡ packed (zeroed_group (processes_of_table c.args.table.now.counts) c.args.g) = c.pack-state.ensures.0 ∙ ap packed c.zeroed.ensures in
    attempting_turn c.loop-y.invariant c.take_turn.ensures c.requires state_is c.in-Continue.is

pub returns-in-Break : goal.returns-in-Break
returns-in-Break c =
    let state_is : c.pack-state.result ≡ packed (zeroed_group (processes_of_table c.args.table.now.counts) c.args.g) = c.pack-state.ensures.0 ∙ ap packed c.zeroed.ensures in
    attempting_end c.loop-y.invariant c.take_turn.ensures c.requires state_is c.in-Break.is

pub shape_of-scratch-in-Break : goal.shape_of-scratch-in-Break
shape_of-scratch-in-Break c =
    let state_is : c.pack-state.result ≡ packed (zeroed_group (processes_of_table c.args.table.now.counts) c.args.g) = c.pack-state.ensures.0 ∙ ap packed c.zeroed.ensures in
    (attempting_end c.loop-y.invariant c.take_turn.ensures c.requires state_is c.in-Break.is).same.size
