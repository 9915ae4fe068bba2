-- The stays of each process that was looked at are noted (Windows).
use mathlib.Core.List.{[]}
use Rattle.plan_model.specs.Hours.{windows_of}
use Rattle.hours.specs.Searching.{ProcessStays}
use Rattle.hours.proofs.Windows.{Filled}
use Rattle.hours.proofs.stays_of.Given as goal

abbrev pub invariant-loop-i : goal.invariant-loop-i
invariant-loop-i l = Filled (λ i. ProcessStays (windows_of l.hours l.counts i)) [] 4 l.stays l.i
