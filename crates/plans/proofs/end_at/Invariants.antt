-- The processes that were looked at have ended at t, those of them that have a part (Minutes).
use mathlib.Core.Path.{◌≡◌}
use Rattle.model.specs.Groups.{processes_of}
use Rattle.plans.proofs.Minutes.{ended_below}
use Rattle.plans.proofs.end_at.Given as goal

abbrev pub invariant-loop-i : goal.invariant-loop-i
invariant-loop-i l = l.ends ≡ ended_below (processes_of l.step.bits) l.t l.initial.ends l.i
