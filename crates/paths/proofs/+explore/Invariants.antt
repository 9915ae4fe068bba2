-- The search from a state goes on by each record in turn (Looping). The records to try grow fewer in the loop, the letters to read from call to call.
use Rattle.std.proofs.Common.{◌-◌}
use Rattle.paths.proofs.Looping.{Looping}
use Rattle.paths.proofs.+explore.Given as goal

abbrev pub decreases-explore : goal.decreases-explore
decreases-explore l = l.job.count - l.level

abbrev pub invariant-loop-r : goal.invariant-loop-r
invariant-loop-r l =
    Looping l.initial.log l.initial.scratch l.job l.level l.state l.found l.trail l.count l.letter l.mask l.g l.base l.n l.log l.scratch l.total l.r

abbrev pub decreases-loop-r : goal.decreases-loop-r
decreases-loop-r l = l.base - l.r
