-- The transitions so far have put in what they lead to, one after the other (Sets).
use Rattle.table.specs.Reading.{system_in}
use Rattle.table.specs.Present.{present_in}
use Rattle.acceptance.proofs.Sets.{Following}
use Rattle.acceptance.proofs.follow_all.Given as goal

abbrev pub invariant-loop-k : goal.invariant-loop-k
invariant-loop-k l = Following (system_in l.table.bytes.now) (present_in l.table.counts) l.letter l.g l.initial.next l.next l.k
