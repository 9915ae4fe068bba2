-- The first step that fits no minute is the first from the next step on, and the noted rules fit some (Checks).
use mathlib.Core.Path.{◌≡◌}
use lib.ListN.{drop}
use Rattle.plan_model.specs.Hours.{first_never, steps_of, week_of}
use Rattle.table.specs.Reading.{system_in}
use Rattle.plans.specs.Planning.{Judged}
use Rattle.plans.proofs.first_never.Given as goal

abbrev pub invariant-loop-k : goal.invariant-loop-k
invariant-loop-k l =
    (first_never (week_of l.openings.hours l.openings.counts) (steps_of (system_in l.table.bytes.now) l.lengths l.run) 0 ≡ first_never (week_of l.openings.hours l.openings.counts) (steps_of (system_in l.table.bytes.now) l.lengths (drop l.k l.run)) l.k)
    × Judged (week_of l.openings.hours l.openings.counts) (system_in l.table.bytes.now) l.lengths l.fitting
