-- The letters of the start join one by one (Counting).
use native.Mathlib.Omega.{arith}
use Rattle.table.proofs.Layouts.{pile_count, pile_letter_in, table_modest}
use Rattle.lengths.proofs.Counting.{counted_word, counting_turn, counting_within, none_within}
use Rattle.lengths.proofs.start_lengths.Goals as goal

pub pile_letter-requires : goal.pile_letter-requires
pile_letter-requires c = c.loop-k-test.true

pub bits_of-requires : goal.bits_of-requires
bits_of-requires c =
    omega (arith, c.pile_letter.ensures, pile_letter_in _ _ c.args.table.now.holds c.loop-k.k c.loop-k-test.true)

pub join-requires : goal.join-requires
join-requires c =
    let table = c.args.table.now.bytes.now in
    let t = c.args.table.now.counts in
    counting_within c.loop-k.invariant none_within (omega (arith, pile_count table t c.args.table.now.holds, (table_modest table t c.args.table.now.holds).pile))

pub loop-k-preserved : goal.loop-k-preserved
loop-k-preserved c =
    counting_turn c.loop-k.invariant (omega (arith, c.loop-k-test.true, pile_count _ _ c.args.table.now.holds)) c.pile_letter.ensures
    c.bits_of.ensures c.join.ensures

pub returns : goal.returns
returns c =
    counted_word c.loop-k.invariant (omega (arith, c.loop-k-test.false, pile_count _ _ c.args.table.now.holds))
