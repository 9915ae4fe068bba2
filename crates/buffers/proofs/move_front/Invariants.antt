-- The bytes so far are copied, each from a place that is not yet written over (Buffers).
use Prim.Native.Nat.{◌≤◌, ◌-◌}
use Rattle.buffers.proofs.Writing.{Fronting}
use Rattle.buffers.proofs.move_front.Given as goal

abbrev pub invariant-loop-i : goal.invariant-loop-i
invariant-loop-i l = (l.i ≤ l.count) × Fronting l.initial.buffer l.from l.buffer l.i
