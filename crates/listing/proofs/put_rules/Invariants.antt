-- One rule after the other is put behind those before it (Texts).
use Prim.Native.Nat.{◌*◌, ◌-◌, ◌≤◌}
use Rattle.listing.specs.Listing.{spaced}
use Rattle.listing.specs.Puts.{Puts}
use lib.ListN.{length, take}
use Rattle.listing.proofs.put_rules.Given as goal

abbrev pub invariant-loop-rule : goal.invariant-loop-rule
invariant-loop-rule l = (l.rule-index ≤ length l.rules) × Puts l.initial.out l.at (spaced (take l.rule-index l.rules)) (6 * l.rule-index) l.end l.out
