-- The test is asked of the length of each rule.
use mathlib.Core.Path.{ap}
use Rattle.std.proofs.Common.{◌≡◌, true, false, rules, tests}
use lib.ListN.{length, take}
use Rattle.std.proofs.lemmas.List.{get_or-take, length-take-le}
use borrow.Author.Tests.{le-leb}
use Rattle.plan_model.specs.Hours.{length_fits, lengths_fit}
use Rattle.std.proofs.lemmas.Iterator.{cases_from_all, YieldsList-from_slice}
use Rattle.plans.proofs.Checks.{all_below_answers}
use Rattle.plans.proofs.lengths_fit.Goals as goal

pub returns-then-rules-lengths : goal.returns-then-rules-lengths
unfolding lengths_fit
returns-then-rules-lengths c =
    let lengths = c.args.lengths.now in
    let n = c.args.rules in
    rw (le-leb n (length lengths) c.if-rules-lengths.true)
    (all_below_answers length_fits _ 0 c.all.result (take n lengths) n (length-take-le n lengths c.if-rules-lengths.true) (λ k l. ap length_fits (get_or-take n lengths k 0 l))
    (cases_from_all _ _ _ (λ x. length_fits x ≡ true) (λ x. length_fits x ≡ false) c.all.ensures.ran (YieldsList-from_slice (take n lengths) cc) (λ x q k. search (rules, tests)) (λ x q k. search (rules, tests))))
