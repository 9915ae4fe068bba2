-- Each kind of answer has its lines, together at most 128 bytes (Texts).
use mathlib.Core.Path.{◌≡◌, ap, sym, subst, ◌∙◌}
use native.Mathlib.Omega.{arith}
use Rattle.std.specs.Prelude.{Result, Ok}
use Rattle.model.specs.declared.Refusal.{Refusal}
use Rattle.model.specs.declared.Verdict.{Verdict}
use Rattle.listing.specs.Listing.{answer_lines}
use Rattle.listing.specs.Puts.{Puts}
use Rattle.listing.proofs.Texts.{puts_then, puts_within}
use Rattle.listing.proofs.put_answer.Goals as goal

pub returns-in-Ok-Reachable : goal.returns-in-Ok-Reachable
unfolding answer_lines
returns-in-Ok-Reachable c =
    let a = c.args in
    let arm = c.in-Ok-Reachable in
    let verdict : arm.field-0 ≡ Verdict.Reachable arm.transitions arm.rounds arm.steps = rw arm.is at arm.field-0-is in
    subst (λ (x : Result Verdict Refusal). Puts a.out.now a.at (answer_lines x) 128 c.put_line.result c.put_line.new.out) (sym (arm.is ∙ ap Ok verdict))
    (puts_then 128 c.put_counted-last.ensures c.put_line.ensures (omega arith) (omega arith))

pub returns-in-Ok-Unreachable : goal.returns-in-Ok-Unreachable
unfolding answer_lines
returns-in-Ok-Unreachable c =
    let a = c.args in
    let arm = c.in-Ok-Unreachable in
    let verdict : arm.field-0 ≡ Verdict.Unreachable arm.transitions arm.rounds = rw arm.is at arm.field-0-is in
    subst (λ (x : Result Verdict Refusal). Puts a.out.now a.at (answer_lines x) 128 c.put_counted.result c.put_counted.new.out) (sym (arm.is ∙ ap Ok verdict))
    (puts_within 128 c.put_counted.ensures (omega arith))

pub returns-in-Err : goal.returns-in-Err
unfolding answer_lines
returns-in-Err c =
    let a = c.args in
    subst (λ (x : Result Verdict Refusal). Puts a.out.now a.at (answer_lines x) 128 c.put_refused.result c.put_refused.new.out) (sym c.in-Err.is)
    (puts_within 128 c.put_refused.ensures (omega arith))
