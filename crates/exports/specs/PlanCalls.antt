-- What the plan call for C and Rust is given, answers and leaves.
use Rattle.std.specs.Prelude.{◌≡◌, List, [], ℕ, ℤ, get_or}
use Rattle.plan_model.specs.declared.Window.{Window}
use Rattle.model.specs.Calls.{refused_at, refused_by}
use Rattle.model.specs.Groups.{Process, at_each, number_of}
use Rattle.plan_model.specs.Hours.{PlanOutcome}
use Rattle.exports.specs.declared.planning.Hours.{Hours}
use Rattle.exports.specs.declared.planning.PlanAnswer.{PlanAnswer}
use Rattle.exports.specs.declared.planning.Week.{Week}

-- the hours of each process, and their counts
abbrev pub hours_at : Week → Process → Hours
hours_at week i = get_or week.processes (number_of i) (record { windows = []; count = 0 })

abbrev pub hours_of : Week → List (List Window)
hours_of week = at_each (λ i. (hours_at week i).windows)

abbrev pub counts_of : Week → List ℕ
counts_of week = at_each (λ i. (hours_at week i).count)

-- the number and the place of the refusal, 0 and 0 if there is none, and the list of begins as the call's outcome has
-- it
pub record PlanAnswers (o : PlanOutcome) (r : PlanAnswer) (begins : List ℤ) : Type 0 where
  pub number : r.number ≡ refused_by o.answer
  pub place : r.place ≡ refused_at o.answer
  pub left : begins ≡ o.begins
