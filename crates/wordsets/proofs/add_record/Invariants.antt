-- The rows of a record in turn.
use Rattle.wordsets.specs.WordSets.{RecordAdded}
use Rattle.wordsets.proofs.add_record.Given as goal

abbrev pub invariant-loop-h : goal.invariant-loop-h
invariant-loop-h l = RecordAdded l.from l.to l.y l.x l.rest l.h l.words l.initial.s l.s l.common
