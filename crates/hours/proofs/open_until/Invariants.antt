-- The windows that were looked at keep the process open up to the latest closing (Windows).
use Rattle.hours.proofs.Windows.{Reaching}
use Rattle.hours.proofs.open_until.Given as goal

abbrev pub invariant-loop-w : goal.invariant-loop-w
invariant-loop-w l = Reaching l.windows l.m l.w-index l.latest
