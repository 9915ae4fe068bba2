-- The answer call for C and Rust: its figures are those of the answer.
use mathlib.Core.Path.{ap, ◌∙◌}
use Rattle.model.specs.Calls.{answer_figures}
use Rattle.std.specs.Prelude.{Result}
use Rattle.model.specs.declared.Refusal.{Refusal}
use Rattle.model.specs.declared.Verdict.{Verdict}
use Rattle.exports.specs.Figures.{sixteen}
use Rattle.exports.proofs.Words.{answer_figures_lem, answer_word}
use Rattle.exports.proofs.roskavel_answer.Goals as goal

pub returns-clause-demand_3 : goal.returns-clause-demand_3
returns-clause-demand_3 c =
    let a = c.args in
    answer_figures_lem a.table.now a.log.now a.scratch.now _ (c.put_answer.ensures ∙ ap (λ (x : Result Verdict Refusal). sixteen (answer_figures x)) c.answer-answered.ensures.demand_1.answer)

pub returns-clause-word : goal.returns-clause-word
returns-clause-word c =
    let a = c.args in
    answer_word a.table.now a.log.now a.scratch.now _ (c.put_answer.ensures ∙ ap (λ (x : Result Verdict Refusal). sixteen (answer_figures x)) c.answer-answered.ensures.demand_1.answer)
