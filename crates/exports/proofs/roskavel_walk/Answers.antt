-- The walk call for C and Rust: its figures are those of the walk, then where the part handed back begins, then its counts.
use mathlib.Core.Path.{ap, ◌∙◌}
use mathlib.Core.List.{List, ◌∷◌, ◌++◌}
use Prim.Native.Nat.{ℕ, ◌-◌}
use lib.ListN.{length, take, drop}
use Rattle.model.specs.Calls.{walk_call}
use Rattle.exports.specs.Figures.{sixteen}
use Rattle.exports.proofs.Parts.{figures_split, rest_short, walk_figures_lem}
use native.Mathlib.Omega.{arith}
use Rattle.exports.proofs.roskavel_walk.Goals as goal

pub overflow_sub-from : goal.overflow_sub-from
overflow_sub-from c =
    let a = c.args in
    omega (arith, rest_short a.table.now a.rules.now a.pile.now a.scratch.now, ap length c.walk-rest.ensures.demand_1.rest)

pub returns-clause-demand_2 : goal.returns-clause-demand_2
returns-clause-demand_2 c =
    let a = c.args in
    let o = walk_call a.table.now a.rules.now a.pile.now a.scratch.now in
    let w = c.walk-rest.ensures.demand_1 in
    let from = length a.rules.now - length c.walk-rest.result.now in
    let f = c.put_walk.ensures ∙ ap (λ (l : List ℕ). sixteen (take 8 l ++ (from ∷ drop 8 l))) w.figures ∙ figures_split o.answer o.counts from in
    (walk_figures_lem a.table.now a.rules.now a.pile.now a.scratch.now _ _ from f w.pile).0

pub returns-clause-request_2_5 : goal.returns-clause-request_2_5
returns-clause-request_2_5 c =
    let a = c.args in
    let o = walk_call a.table.now a.rules.now a.pile.now a.scratch.now in
    let w = c.walk-rest.ensures.demand_1 in
    let from = length a.rules.now - length c.walk-rest.result.now in
    let f = c.put_walk.ensures ∙ ap (λ (l : List ℕ). sixteen (take 8 l ++ (from ∷ drop 8 l))) w.figures ∙ figures_split o.answer o.counts from in
    (walk_figures_lem a.table.now a.rules.now a.pile.now a.scratch.now _ _ from f w.pile).1
