-- The processes below i have their change (Turning).
use Rattle.std.proofs.Common.{arith, ap, ℕ, get_or, []}
use Rattle.table.specs.Reading.{process_at}
use Rattle.table.proofs.Layouts.{number_at}
use Rattle.lengths.proofs.Turning.{turn_at}
use Rattle.lengths.proofs.add_change.Goals as goal

pub overflow_add-l : goal.overflow_add-l
overflow_add-l c =
    let i = c.loop-i.i in
    omega (arith, turn_at c.loop-i.invariant c.loop-i-test.true, c.requires.1 (process_at i), ap (λ (k : ℕ). get_or (get_or c.args.changes.now c.args.k []) k 0) (number_at i c.loop-i-test.true))
