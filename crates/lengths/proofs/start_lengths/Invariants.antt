-- The letters of the start join one by one (Counting).
use Rattle.table.specs.Reading.{system_in}
use Rattle.lengths.proofs.Counting.{Counting}
use Rattle.lengths.proofs.start_lengths.Given as goal

abbrev pub invariant-loop-k : goal.invariant-loop-k
invariant-loop-k l = Counting (system_in l.table.bytes.now).loc (system_in l.table.bytes.now).start.word l.initial.l l.l l.k
