-- The letters below i have their bits.
use Prim.Native.Nat.{◌-◌, ◌≤◌}
use Rattle.restsets.specs.Filling.{LettersIn}
use Rattle.restsets.proofs.word_letters.Given as goal

abbrev pub invariant-loop-i : goal.invariant-loop-i
invariant-loop-i l = (l.i ≤ l.table.counts.pile) × LettersIn l.table.bytes.now l.i l.letters
