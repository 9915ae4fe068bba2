-- The processes below i are counted where they are not in the set (Turning).
use Rattle.std.proofs.Common.{arith, refl, ◌≡◌, [], ◌∷◌}
use Rattle.model.proofs.Groups.{bit_low}
use Rattle.model.proofs.Tests.{each_process}
use Rattle.table.specs.Reading.{process_at}
use Rattle.table.proofs.Layouts.{number_at}
use Rattle.lengths.specs.Projections.{length_at}
use Rattle.lengths.proofs.Turning.{turn_at}
use Rattle.lengths.proofs.rest.Goals as goal

ones : (p : _) → length_at (1 ∷ 1 ∷ 1 ∷ 1 ∷ []) p ≡ 1
ones = each_process _ refl refl refl refl

pub overflow_sub-l : goal.overflow_sub-l
overflow_sub-l c =
    let p = process_at c.loop-i.i in
    omega (arith, turn_at c.loop-i.invariant c.loop-i-test.true, ones p, c.part.ensures p (number_at c.loop-i.i c.loop-i-test.true), bit_low)
