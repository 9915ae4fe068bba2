-- The test is asked of each process.
use Rattle.std.proofs.Common.{ℕ, ◌≡◌, ◌∙◌, ap, refl, sym, true, false, Bool, leb, get_or, arith, rules, tests}
use Rattle.std.specs.List.{range_with_len}
use Rattle.std.proofs.lemmas.Iterator.{cases_from_all, YieldsList-from_range}
use Rattle.model.proofs.SliceTests.{all_answers}
use Rattle.model.specs.Lists.{all_of}
use Rattle.model.specs.Tables.{absent, byte_of, is_narrow}
use Rattle.table.proofs.Bodies.{bodies_length}
use Rattle.table.specs.Places.{processes_in}
use Rattle.reading.proofs.Ranges.{all_range}
use Rattle.reading.proofs.checks.is_narrow.Goals as goal

pub returns : goal.returns
unfolding is_narrow
returns c =
    let bodies = processes_in c.args.bytes.now c.args.t in
    let test : ℕ → Bool = λ i. leb (byte_of (get_or bodies i absent) 1) 4 in
    all_answers test _ (range_with_len 0 c.args.t.processes) (cases_from_all _ _ _ (λ x. test x ≡ true) (λ x. test x ≡ false) c.all.ensures.ran (YieldsList-from_range 0 c.args.t.processes c.args.t.processes refl (omega arith))
    (λ x q k. search (rules, tests)) (λ x q k. search (rules, tests)))
    ∙ ap (λ n. all_of test (range_with_len 0 n)) (sym (bodies_length c.args.bytes.now 2 0 c.args.t.processes))
    ∙ all_range (λ body. leb (byte_of body 1) 4) absent test 0 bodies (λ k h. ap test (omega arith))
