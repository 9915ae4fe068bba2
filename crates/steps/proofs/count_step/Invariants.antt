-- The processes below i are counted, the counts of the others are as they were.
use Rattle.std.proofs.Common.{◌≡◌, ◌+◌, ◌<◌, ◌≤◌, length, min}
use Rattle.model.specs.Groups.{Process, bit, has, number_of, processes_of}
use Rattle.model.specs.Participation.{count_of}
use Rattle.steps.proofs.count_step.Given as goal

abbrev pub invariant-loop-i : goal.invariant-loop-i
invariant-loop-i l = record {
  size : length l.counts ≡ 4;
  below : (p : Process) → number_of p < l.i → count_of l.counts p ≡ min l.ceiling (count_of l.initial.counts p + bit (has (processes_of l.bits) p));
  above : (p : Process) → l.i ≤ number_of p → count_of l.counts p ≡ count_of l.initial.counts p;
}
