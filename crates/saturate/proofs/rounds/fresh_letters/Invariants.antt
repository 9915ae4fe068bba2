-- Record after record, the letters of all are gathered.
use Rattle.saturate.specs.Rounds.{FreshLetters}
use Rattle.saturate.proofs.rounds.fresh_letters.Given as goal

abbrev pub invariant-loop-r : goal.invariant-loop-r
invariant-loop-r l = FreshLetters l.log l.lo l.r l.letters
