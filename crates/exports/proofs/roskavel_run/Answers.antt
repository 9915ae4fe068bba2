-- The run call for C and Rust: its figures are those of the run.
use mathlib.Core.Path.{ap, ◌∙◌}
use Rattle.model.specs.Calls.{run_figures}
use Rattle.std.specs.Prelude.{Result}
use Rattle.model.specs.declared.Refusal.{Refusal}
use Rattle.model.specs.declared.Run.{Run}
use Rattle.exports.specs.Figures.{sixteen}
use Rattle.exports.proofs.Words.{run_figures_lem, run_word}
use Rattle.exports.proofs.roskavel_run.Goals as goal

pub returns-clause-demand_3 : goal.returns-clause-demand_3
returns-clause-demand_3 c =
    let a = c.args in
    let o = c.run-ran.ensures.demand_1 in
    run_figures_lem a.table.now a.log.now a.scratch.now a.page.now _ _ (c.put_run.ensures ∙ ap (λ (x : Result Run Refusal). sixteen (run_figures x)) o.answer) o.page_left

pub returns-clause-word : goal.returns-clause-word
returns-clause-word c =
    let a = c.args in
    let o = c.run-ran.ensures.demand_1 in
    run_word a.table.now a.log.now a.scratch.now a.page.now _ _ (c.put_run.ensures ∙ ap (λ (x : Result Run Refusal). sixteen (run_figures x)) o.answer) o.page_left
