-- A frame of one state of each process.
use borrow.Author.Tests.{eqb-true}
use Rattle.restsets.proofs.OwnGroups.{single_frame}
use Rattle.restsets.proofs.groups.is_single.Goals as goal

pub returns-then-f-eq1-2 : goal.returns-then-f-eq1-2
returns-then-f-eq1-2 c = λ y. single_frame c.args.f c.if-f-eq1-2.true.0 c.if-f-eq1-2.true.1 (eqb-true _ 1 y)
