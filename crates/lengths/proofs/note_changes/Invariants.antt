-- The changes of the rules below k are noted.
use Rattle.std.proofs.Common.{◌≡◌, length}
use Rattle.lengths.specs.Projections.{ChangesNoted}
use Rattle.lengths.proofs.note_changes.Given as goal

abbrev pub invariant-loop-k : goal.invariant-loop-k
invariant-loop-k l = (length l.changes ≡ 200) × ChangesNoted l.table.bytes.now l.k l.changes
