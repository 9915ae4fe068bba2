-- The process stays open for the minutes counted, which begin with those of the window (Windows). Each turn counts more of them, as far as any step asks.
use Prim.Native.Nat.{◌-◌}
use Rattle.plan_model.specs.Hours.{window_at}
use Rattle.hours.specs.Searching.{farthest}
use Rattle.hours.proofs.Windows.{Staying}
use Rattle.hours.proofs.stay_from.Given as goal

abbrev pub invariant-loop-run : goal.invariant-loop-run
invariant-loop-run l = Staying l.windows (window_at l.windows l.k) l.run

abbrev pub decreases-loop-run : goal.decreases-loop-run
decreases-loop-run l = farthest - l.run
