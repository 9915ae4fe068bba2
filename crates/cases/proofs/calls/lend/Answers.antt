-- Each buffer is as long as it is declared.
use mathlib.Core.Path.{sym}
use Prim.Native.Nat.{ℕ}
use lib.ListN.{length-replicate}
use Rattle.cases.proofs.calls.lend.Goals as goal

pub slice_bounds-call_in_parts-end-3 : goal.slice_bounds-call_in_parts-end-3
slice_bounds-call_in_parts-end-3 g c = sym (length-replicate {A = ℕ} 1000000 7)
