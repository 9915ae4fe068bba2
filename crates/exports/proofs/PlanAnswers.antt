-- What the plan call for C and Rust answers, from what the plan gave.
use mathlib.Core.Path.{◌≡◌, ap, ◌∙◌}
use mathlib.Core.List.{List}
use Prim.Native.Nat.{ℕ}
use lib.IntN.{ℤ}
use Rattle.model.specs.Calls.{refused_at, refused_by}
use Rattle.plan_model.specs.declared.Window.{Window}
use Rattle.plan_model.specs.Hours.{PlanMeans, Planned, plan_call}
use Rattle.plans.specs.Planning.{Plans}
use Rattle.plans.proofs.Outcomes.{plans_mean}
use Rattle.exports.specs.PlanCalls.{PlanAnswers, counts_of, hours_of}
use Rattle.exports.specs.declared.planning.Week.{Week}

module _ (table run : List ℕ) (week : Week) (lengths : List ℕ) (start : ℤ) (begins : List ℤ) where
  pub plan_answers : (hours : List (List Window)) (counts : List ℕ) (z : ℤ) → hours ≡ hours_of week → counts ≡ counts_of week → z ≡ start
      → (r : Planned) (b : List ℤ) (number place : ℕ) → Plans (plan_call table run hours counts lengths z begins) r b → number ≡ refused_by r → place ≡ refused_at r
      → PlanAnswers (plan_call table run (hours_of week) (counts_of week) lengths start begins) (record { number = number; place = place }) b
      × PlanMeans table run (hours_of week) (counts_of week) lengths start number place b
  plan_answers hours counts z h c s r b number place p n l =
      let q : Plans (plan_call table run (hours_of week) (counts_of week) lengths start begins) r b = rw (← h, ← c, ← s) p in (
        record { number = n ∙ ap refused_by q.answer; place = l ∙ ap refused_at q.answer; left = q.begins },
        rw (n, l) (plans_mean table run (hours_of week) (counts_of week) lengths start begins r b q),
      )
