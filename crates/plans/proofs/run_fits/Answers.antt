-- The test is asked of each step.
use Rattle.std.proofs.Common.{ℕ, ◌≡◌, true, false, ltb, rules, tests}
use mathlib.Core.Path.{refl}
use lib.ListN.{length}
use borrow.Author.Tests.{le-leb}
use Rattle.plan_model.specs.Hours.{most_steps, run_fits}
use Rattle.std.proofs.lemmas.Iterator.{cases_from_all, YieldsList-from_slice}
use Rattle.plans.proofs.Checks.{all_below_answers}
use Rattle.plans.proofs.run_fits.Goals as goal

pub returns-then-run-le-MOST_STEPS : goal.returns-then-run-le-MOST_STEPS
unfolding run_fits
returns-then-run-le-MOST_STEPS c =
    let test : ℕ → _ = λ n. ltb n c.args.rules in
    let run = c.args.run.now in
    rw (le-leb (length run) most_steps c.if-run-le-MOST_STEPS.true)
    (all_below_answers test _ 0 c.all.result run _ refl (λ k l. refl)
    (cases_from_all _ _ _ (λ x. test x ≡ true) (λ x. test x ≡ false) c.all.ensures.ran (YieldsList-from_slice run cc) (λ x q k. search (rules, tests)) (λ x q k. search (rules, tests))))
