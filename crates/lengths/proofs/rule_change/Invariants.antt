-- The letters that the rule writes join one by one (Counting).
use Rattle.table.specs.Reading.{rule_in, system_in}
use Rattle.lengths.proofs.Counting.{Counting}
use Rattle.lengths.proofs.rule_change.Given as goal

abbrev pub invariant-loop-j : goal.invariant-loop-j
invariant-loop-j l = Counting (system_in l.table.bytes.now).loc (rule_in l.table.bytes.now l.k).written l.initial.l l.l l.j
