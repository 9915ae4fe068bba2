-- What the functions of the plan ask and give.
use Rattle.std.specs.Prelude.{Bool, true, false, List, ◌≡◌, ℕ, ◌+◌, ◌*◌, ◌≤◌, ℤ, pos, ◌+ℤ◌, get_or}
use Rattle.plan_model.specs.declared.Window.{Window}
use Rattle.model.specs.Groups.{Process}
use Rattle.plan_model.specs.Hours.{PlanOutcome, Planned, end_of, longest_step, never_fits, start_fits, step_of}
use Rattle.plan_model.specs.Hours.{week_minutes, most_steps}
use Rattle.model.specs.Systems.{System}

-- a step of each noted rule fits some minute
pub record Judged (week : Process → List Window) (sys : System) (lengths : List ℕ) (fitting : List Bool) : Type 0 where
  pub fits : (n : ℕ) → get_or fitting n false ≡ true → never_fits week (step_of sys lengths n) ≡ false

-- a step ends at most so many minutes after its bound, and the steps of a run at most so many after the start
abbrev pub step_reach : ℕ
step_reach = week_minutes + longest_step

abbrev pub plan_reach : ℕ
plan_reach = most_steps * step_reach

-- a minute that is at most n minutes after the start
pub record Minute (start t : ℤ) (n : ℕ) : Type 0 where
  pub after : ℕ
  pub is : t ≡ start +ℤ pos after
  pub near : after ≤ n

-- every process has ended at most n minutes after a start within its bounds
pub record Near (start : ℤ) (ends : List ℤ) (n : ℕ) : Type 0 where
  pub start_fits : start_fits start ≡ true
  pub each : (i : Process) → Minute start (end_of ends i) n

-- what a plan gives and leaves
pub record Plans (o : PlanOutcome) (r : Planned) (b : List ℤ) : Type 0 where
  pub answer : r ≡ o.answer
  pub begins : b ≡ o.begins
