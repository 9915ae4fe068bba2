-- The rules written so far and what the stack still emits are the whole run; each turn uses up a place of the page or of the stack (Working).
use Prim.Native.Nat.{◌+◌, ◌-◌, ◌*◌}
use lib.ListN.{length}
use Rattle.model.specs.Tables.{written_places}
use Rattle.scratch.specs.StackNumbers.{stack_of}
use Rattle.unfold.proofs.Working.{Working}
use Rattle.unfold.proofs.work_off.Given as goal

abbrev pub invariant-loop-w : goal.invariant-loop-w
invariant-loop-w l = Working l.table.bytes.now (length l.initial.scratch) (stack_of l.initial.scratch l.top) l.initial.page l.scratch l.page l.w

abbrev pub decreases-loop-w : goal.decreases-loop-w
decreases-loop-w l = (1 + written_places) * (length l.initial.page - l.w.rules) + l.w.top
