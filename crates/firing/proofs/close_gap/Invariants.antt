-- One letter after the other moves one place on, beginning at the gap (Piles).
use mathlib.Core.Path.{◌≡◌}
use Prim.Native.Nat.{◌≤◌}
use Rattle.firing.specs.Places.{closed}
use lib.ListN.{length}
use Rattle.firing.proofs.close_gap.Given as goal

abbrev pub invariant-loop-j : goal.invariant-loop-j
invariant-loop-j l = (l.top ≤ l.j) × (l.j ≤ l.p) × (length l.pile ≡ length l.initial.pile) × (l.pile ≡ closed l.initial.pile l.j l.p)

abbrev pub decreases-loop-j : goal.decreases-loop-j
decreases-loop-j l = l.j
