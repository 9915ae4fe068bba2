-- The test is asked of each window that counts.
use Rattle.std.proofs.Common.{ℕ, ◌≡◌, true, false, rules, tests}
use mathlib.Core.Path.{ap, ◌∙◌}
use native.Mathlib.Omega.{arith}
use lib.ListN.{take}
use Rattle.std.proofs.lemmas.List.{get_or-take, length-take-le}
use borrow.Author.Tests.{le-leb}
use Rattle.plan_model.specs.Hours.{window_fits}
use Rattle.std.proofs.lemmas.Iterator.{cases_from_all, YieldsList-from_slice}
use Rattle.plans.proofs.Checks.{all_below_answers}
use Rattle.plans.proofs.process_fits.Goals as goal

pub returns-then-n-le-WINDOW_PLACES : goal.returns-then-n-le-WINDOW_PLACES
returns-then-n-le-WINDOW_PLACES c =
    let windows = c.args.windows.now in
    let n = c.args.count in
    let l = c.from-n.ensures in
    let m = c.if-n-le-WINDOW_PLACES.true in
    let r = c.iter.ensures.rest in
    rw (le-leb n 14 (omega arith))
    (all_below_answers window_fits _ (record { opens = 0; closes = 0 }) c.all.result (take n windows) n (length-take-le n windows (omega arith)) (λ k h. ap window_fits (get_or-take n windows k _ h))
    (cases_from_all _ _ _ (λ x. window_fits x ≡ true) (λ x. window_fits x ≡ false) c.all.ensures.ran (YieldsList-from_slice (take n windows) (r ∙ ap (λ (k : ℕ). take k windows) l)) (λ x q k. search (rules, tests)) (λ x q k. search (rules, tests))))
