-- The verdict, and the run: none, or that of the path on the stack, which one search found.
use mathlib.Core.Path.{ap, ◌∙◌}
use Rattle.std.specs.Prelude.{Ok}
use Rattle.verdict.proofs.Verdicts.{path_stacked, run_back, run_none, verdict_stated}
use Rattle.verdict.proofs.answer_and_run_limit.Goals as goal

pub returns-in-None : goal.returns-in-None
returns-in-None c =
    let w = c.requires in
    let sought = c.find-path.ensures _ w.log_of in
    record {
      answer = ap Ok (c.stated_verdict.ensures ∙ verdict_stated w sought);
      run = run_none w sought c.find-path.auto.scratch c.in-None.is c.clear.ensures;
    }

pub write_run-ran-requires : goal.write_run-ran-requires
write_run-ran-requires c =
    let w = c.requires in
    path_stacked w (c.find-path.ensures _ w.log_of) c.find-path.auto.scratch c.in-Some.is

pub returns-in-Some : goal.returns-in-Some
returns-in-Some c =
    let w = c.requires in
    let sought = c.find-path.ensures _ w.log_of in
    record {
      answer = ap Ok (c.stated_verdict.ensures ∙ verdict_stated w sought);
      run = run_back w sought c.find-path.auto.scratch c.write_run-ran.ensures;
    }
