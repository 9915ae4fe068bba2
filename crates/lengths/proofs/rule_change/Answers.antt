-- The letters that the rule writes join one by one (Counting).
use native.Mathlib.Omega.{arith}
use Rattle.table.proofs.Layouts.{rule_letter_in, written_few, written_letter_in}
use Rattle.lengths.proofs.Counting.{counting_turn, counting_within, rest_within}
use Rattle.lengths.proofs.rule_change.Goals as goal

pub bits_of-requires : goal.bits_of-requires
bits_of-requires c = omega (arith, c.rule_letter.ensures, rule_letter_in _ _ c.args.table.now.holds _ c.requires)

pub bits_of-requires-in-loop-j : goal.bits_of-requires-in-loop-j
bits_of-requires-in-loop-j c =
    omega (arith, c.written_letter.ensures, written_letter_in _ _ c.args.table.now.holds _ c.loop-j.j c.requires (omega (arith, c.written_count-j-end.ensures, c.loop-j-test.true)))

pub join-requires : goal.join-requires
join-requires c =
    counting_within c.loop-j.invariant (rest_within _ c.rest-l.result c.rest-l.ensures) (omega (arith, written_few _ _ c.args.table.now.holds _ c.requires))

pub loop-j-preserved : goal.loop-j-preserved
loop-j-preserved c =
    counting_turn c.loop-j.invariant (omega (arith, c.loop-j-test.true, c.written_count-j-end.ensures)) c.written_letter.ensures
    c.bits_of-in-loop-j.ensures c.join.ensures
