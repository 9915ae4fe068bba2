-- The answer's lines alone, or with the run's behind them, are the whole text (LineTexts).
use Rattle.std.proofs.Common.{ap, arith, sym, ◌∙◌}
use Rattle.listing.specs.Listing.{listed}
use Rattle.listing.proofs.LineTexts.{run_fits_lem, text_alone, text_with_run}
use Rattle.listing.proofs.Texts.{puts_front, puts_then}
use Rattle.line.proofs.respond.Goals as goal

pub put_ran-requires : goal.put_ran-requires
put_ran-requires c =
    let a = c.args in
    let both = c.answer_and_run-both in
    let answer = c.put_answer-end.ensures in (
      omega (arith, ap listed both.ensures.run.answer, run_fits_lem a.input.now a.log.now a.scratch.now a.page.now, both.auto.page),
      omega (arith, answer.next, answer.short, answer.size, c.requires.0.page_length, c.requires.1, both.auto.page),
    )

pub returns-then-is_reachable : goal.returns-then-is_reachable
returns-then-is_reachable c =
    let a = c.args in
    let both = c.answer_and_run-both in
    let front = puts_front (puts_then 60192 c.put_answer-end.ensures c.put_ran.ensures (omega arith) (omega (arith, c.requires.0.page_length, both.auto.page)))
    (omega (arith, c.requires.1)) in (
      front.0 ∙ text_with_run a.input.now a.log.now a.scratch.now a.page.now both.result.answered c.requires.0 both.ensures.answer.answer
          (sym c.is_reachable.ensures ∙ c.if-is_reachable.true) both.ensures.run.answer both.ensures.run.page_left,
      front.1,
    )

pub returns : goal.returns
returns c =
    let a = c.args in
    let both = c.answer_and_run-both in
    let front = puts_front c.put_answer-end.ensures (omega (arith, c.requires.1)) in (
      front.0 ∙ text_alone a.input.now a.log.now a.scratch.now a.page.now both.result.answered c.requires.0 both.ensures.answer.answer
          (sym c.is_reachable.ensures ∙ c.if-is_reachable.false),
      front.1,
    )
