-- Each letter's record in turn gives the start's path.
use Prim.Native.Nat.{◌-◌}
use Rattle.start.proofs.Tracing.{Tracing}
use Rattle.start.proofs.paths.write_path.Given as goal

abbrev pub invariant-loop-i : goal.invariant-loop-i
invariant-loop-i l = Tracing l.table.bytes.now l.table.counts l.log l.c.limit l.initial.scratch l.i l.scratch l.g
