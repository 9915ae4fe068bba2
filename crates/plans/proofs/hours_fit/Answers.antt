-- The test is asked of the windows and the count of each process.
use Rattle.std.proofs.Common.{ℕ, ◌≡◌, ◌≤◌, true, false, rules, tests}
use mathlib.Core.Path.{ap, ◌∙◌}
use mathlib.Core.List.{List, []}
use native.Mathlib.Omega.{arith}
use lib.ListN.{length, take}
use Rattle.std.specs.List.{zip}
use Rattle.std.proofs.lemmas.Iterator.{YieldsList-from_slice, YieldsList-from_take, YieldsList-from_zip, cases_from_all}
use Rattle.std.proofs.lemmas.List.{get_or-take, length-take-le}
use Rattle.std.proofs.lemmas.Slice.Zip.{get_or-zip, length-zip}
use Rattle.plan_model.specs.declared.Window.{Window}
use Rattle.plan_model.specs.Hours.{hours_fit, process_fits}
use Rattle.plans.proofs.Checks.{all_below_answers}
use Rattle.plans.proofs.hours_fit.Goals as goal

pub returns : goal.returns
unfolding hours_fit
returns c =
    let hours = c.args.hours.now in
    let counts = c.args.counts.now in
    let n = c.args.processes in
    let pairs = zip hours counts in
    let test : List Window × ℕ → _ = λ p. process_fits p.0 p.1 in
    let some : List Window × ℕ = ([], 0) in
    let size : n ≤ length pairs = omega (arith, length-zip hours counts, c.requires) in
    all_below_answers test _ some c.all.result (take n pairs) n (length-take-le n pairs size)
    (λ k l. ap test (get_or-take n pairs k some l ∙ get_or-zip hours counts k some (omega arith) (omega arith)))
    (cases_from_all c.all.new.self _ _ (λ x. test x ≡ true) (λ x. test x ≡ false) c.all.ensures.ran
    (YieldsList-from_take {s = c.take.result} n (YieldsList-from_zip (YieldsList-from_slice hours cc) (YieldsList-from_slice counts cc)) c.take.ensures.count)
    (λ x q k. search (rules, tests)) (λ x q k. search (rules, tests)))
