-- The set accepts the rest of the word just where the first set accepts the whole (Regions).
use Rattle.table.specs.Reading.{system_in}
use Rattle.table.specs.Present.{present_in}
use Rattle.acceptance.proofs.Regions.{Ahead}
use Rattle.acceptance.proofs.read_word.Given as goal

abbrev pub invariant-loop-letter : goal.invariant-loop-letter
invariant-loop-letter l = Ahead (system_in l.table.bytes.now) (present_in l.table.counts) l.word l.initial.scratch l.scratch l.letter-index
