-- What is read from the cursor on is what the whole reading gives, and the filter is that of the items before it (Marks); each item moves the cursor on.
use Rattle.std.proofs.Common.{refl, arith}
use Rattle.table.proofs.Steps.{going_end}
use Rattle.reading.proofs.Marks.{filtering_start, filtering_turn}
use Rattle.reading.proofs.read.Goals as goal

pub loop-next-init : goal.loop-next-init
loop-next-init c = filtering_start c.args.bytes.now _ (rw c.empty.ensures refl) refl

pub loop-next-smaller : goal.loop-next-smaller
loop-next-smaller c =
    let o = c.next_item.ensures.stepped.next _ c.in-Continue.is in
    omega (arith, o.ahead, o.passed.within)

pub loop-next-preserved : goal.loop-next-preserved
loop-next-preserved c = filtering_turn c.loop-next.invariant c.next_item.ensures c.in-Continue.is

pub returns-in-Break : goal.returns-in-Break
returns-in-Break c =
    going_end _ _ c.loop-next.invariant.going _ (c.next_item.ensures.stepped.done _ c.in-Break.is)
