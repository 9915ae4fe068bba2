-- Request 2.7, of the definitions that the contract of the plan call cites: the top statements alone.
use mathlib.Core.Path.{◌≡◌}
use mathlib.Core.Bool.{false, true}
use mathlib.Core.Logic.{◌↔◌}
use mathlib.Core.List.{List}
use Prim.Native.Nat.{ℕ}
use lib.IntN.{ℤ}
use Rattle.plan_model.specs.declared.Window.{Window}
use Rattle.model.specs.Groups.{Process}
use Rattle.plan_model.specs.Hours.{PlanMeans, PlannedStep, fits, never_fits, plan_call}
use Rattle.model.specs.Calls.{refused_at, refused_by}
use Rattle.plan_model.proofs.Plans.{plan_means}
use Rattle.plan_model.proofs.Weeks.{never_true, never_where_none}

-- ---- request 2.7: each step of a plan that is given begins at its first minute, and a plan that the table and check 19 let through is refused, by 20, exactly where
-- a step fits no minute of any week
pub plan_holds : (table run : List ℕ) (hours : List (List Window)) (counts lengths : List ℕ) (start : ℤ) (begins : List ℤ)
    → let o = plan_call table run hours counts lengths start begins in
    PlanMeans table run hours counts lengths start (refused_by o.answer) (refused_at o.answer) o.begins
plan_holds = plan_means

-- of one step, for every minute of the integers
pub never_exact : (week : Process → List Window) (s : PlannedStep) → (never_fits week s ≡ true) ↔ ((t : ℤ) → fits week s t ≡ false)
never_exact week s = (never_true week s, never_where_none week s)
