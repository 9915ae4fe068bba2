-- The stay of each window that was looked at is noted (Windows).
use Rattle.hours.specs.Searching.{Stays}
use Rattle.plan_model.specs.Hours.{window_at}
use Rattle.hours.proofs.Windows.{Filled}
use Rattle.hours.proofs.stays_in.Given as goal

abbrev pub invariant-loop-k : goal.invariant-loop-k
invariant-loop-k l = Filled (λ k. Stays l.windows (window_at l.windows k)) 0 14 l.stays l.k
