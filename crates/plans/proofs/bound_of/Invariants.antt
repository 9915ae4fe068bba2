-- The bound by the processes that were looked at, from the last one on (Minutes).
use mathlib.Core.Path.{◌≡◌}
use Rattle.model.specs.Groups.{processes_of}
use Rattle.plans.proofs.Minutes.{bound_from}
use Rattle.plans.proofs.bound_of.Given as goal

abbrev pub invariant-loop-i : goal.invariant-loop-i
invariant-loop-i l = l.bound ≡ bound_from l.start l.ends (processes_of l.bits) l.i
