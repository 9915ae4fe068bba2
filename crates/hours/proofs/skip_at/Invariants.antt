-- A step that begins within the minutes that are left lasts beyond the stay of each window that was looked at (Windows).
use lib.ListN.{length}
use Rattle.hours.proofs.Windows.{Fitting}
use Rattle.hours.proofs.skip_at.Given as goal

abbrev pub invariant-loop-w : goal.invariant-loop-w
invariant-loop-w l = Fitting l.windows l.stays l.step.length l.m (length l.yielded) l.least
