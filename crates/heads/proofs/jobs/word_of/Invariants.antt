-- One letter after the other is read (Words).
use Prim.Native.Nat.{◌≤◌}
use Rattle.heads.specs.Jobs.{WordOf}
use Rattle.heads.proofs.jobs.word_of.Given as goal

abbrev pub invariant-loop-j : goal.invariant-loop-j
invariant-loop-j l = (l.j ≤ l.count) × WordOf l.table.bytes.now l.fresh l.k l.j l.word
