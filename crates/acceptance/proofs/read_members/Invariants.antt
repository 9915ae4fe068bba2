-- The states below the next member have put in what the letter leads to from them (Sets).
use mathlib.Core.Path.{◌≡◌}
use Prim.Native.Nat.{◌-◌}
use lib.ListN.{length}
use Rattle.states.specs.StateNumbers.{state_count}
use Rattle.table.specs.Reading.{system_in}
use Rattle.table.specs.Present.{present_in}
use Rattle.acceptance.specs.Sets.{here, there}
use Rattle.acceptance.proofs.Sets.{Collected}
use Rattle.acceptance.proofs.read_members.Given as goal

abbrev pub invariant-loop-n : goal.invariant-loop-n
invariant-loop-n l = (length l.scratch ≡ length l.initial.scratch) × (here l.scratch ≡ here l.initial.scratch) × Collected (system_in l.table.bytes.now) (present_in l.table.counts) l.letter (here l.initial.scratch) (there l.initial.scratch) (there l.scratch) l.n

abbrev pub decreases-loop-n : goal.decreases-loop-n
decreases-loop-n l = state_count - l.n
