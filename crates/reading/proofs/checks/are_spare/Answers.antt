-- The test is asked of each byte.
use Rattle.std.proofs.Common.{ℕ, ◌≡◌, true, false, eqb, rules, tests}
use Rattle.std.proofs.lemmas.Iterator.{cases_from_all, YieldsList-from_slice}
use Rattle.model.proofs.SliceTests.{all_answers}
use Rattle.reading.proofs.checks.are_spare.Goals as goal

pub returns : goal.returns
returns c =
    let test : ℕ → _ = λ a. eqb a 255 in
    all_answers test _ _ (cases_from_all _ _ _ (λ x. test x ≡ true) (λ x. test x ≡ false) c.all.ensures.ran (YieldsList-from_slice c.args.part.now cc)
    (λ x q k. search (rules, tests)) (λ x q k. search (rules, tests)))
