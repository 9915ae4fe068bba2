-- The records of round k are put into rings, the positions that write their letters made active, their keys indexed, and their heads added one after the
-- other (RoundSteps); then the round is told (RoundEnds).
use mathlib.Core.Path.{◌∙◌}
use native.Mathlib.Omega.{arith}
use Rattle.table.proofs.Layouts.{table_modest}
use Rattle.saturate.proofs.RoundEnds.{round_ends}
use Rattle.saturate.proofs.RoundSteps.{heads_end, heads_start, heads_turn}
use Rattle.saturate.proofs.ScratchParts.{keys_keep, may_index, round_stands}
use Rattle.saturate.proofs.rounds.add_round.Goals as goal

pub set_active-requires : goal.set_active-requires
set_active-requires c =
    let modest = table_modest c.args.table.now.bytes.now c.args.table.now.counts c.requires.holds in
    (modest.rules, modest.letters, omega (arith, c.requires.scratch, c.append.ensures.0.size))

pub index_keys-requires : goal.index_keys-requires
index_keys-requires c =
    may_index c.requires c.append.ensures.0 c.fresh_letters-fresh.ensures c.set_active.ensures

pub loop-round-init : goal.loop-round-init
loop-round-init c =
    let begins = c.requires in
    let rings = c.append.ensures in
    let letters = c.fresh_letters-fresh.ensures in
    let active = c.set_active.ensures in
    let first = c.next_active-first.ensures in
    let keys = c.index_keys.ensures in
    heads_start (round_stands begins rings.0 letters active first keys rings.1 rings.2) _ (keys_keep begins rings.0 letters active first keys) first

pub loop-round-preserved : goal.loop-round-preserved
loop-round-preserved c =
    heads_turn c.loop-round.invariant c.goes_on.ensures c.loop-round-test.true c.add_head-at.ensures

pub returns-clause-request_2_3 : goal.returns-clause-request_2_3
returns-clause-request_2_3 c =
    (round_ends c.requires (heads_end c.loop-round.invariant c.goes_on.ensures c.loop-round-test.false)
    (c.index_keys.ensures.outside.size ∙ c.set_active.ensures.kept.size ∙ c.append.ensures.0.size) c.told.ensures).0

pub returns-clause-scratch : goal.returns-clause-scratch
returns-clause-scratch c =
    (round_ends c.requires (heads_end c.loop-round.invariant c.goes_on.ensures c.loop-round-test.false)
    (c.index_keys.ensures.outside.size ∙ c.set_active.ensures.kept.size ∙ c.append.ensures.0.size) c.told.ensures).1
