-- None of the accepting groups so far is the group (Sets).
use mathlib.Core.List.{[]}
use Rattle.model.specs.Groups.{same_group}
use Rattle.model.specs.Tables.{group_of}
use Rattle.table.specs.Reading.{system_in}
use Rattle.acceptance.proofs.Sets.{Unfound}
use Rattle.acceptance.proofs.is_accepting.Given as goal

abbrev pub invariant-loop-k : goal.invariant-loop-k
invariant-loop-k l = Unfound (same_group l.g) (system_in l.table.bytes.now).accepting (group_of [] 0) l.k
