-- The stack of record numbers in scratch: numbers of 16 bits from a fixed offset on. The start's path is written there,
-- and the unfolding goes on with it.
use Rattle.std.specs.Prelude.{List, [], ◌∷◌, ℕ, zero, suc, ◌+◌, ◌*◌}
use Rattle.model.specs.Records.{number_at}
use Rattle.scratch.specs.Regions.{stack_at}

-- where number k stands
abbrev pub stack_place : ℕ → ℕ
stack_place k = stack_at + 2 * k

-- k numbers from the offset `at` on, the last first
unfoldable pub numbers_down : List ℕ → ℕ → ℕ → List ℕ
numbers_down s at zero = []
numbers_down s at (suc k) = number_at 2 s (at + 2 * k) ∷ numbers_down s at k

-- a stack of so many numbers, the top first
abbrev pub stack_of : List ℕ → ℕ → List ℕ
stack_of s top = numbers_down s stack_at top
