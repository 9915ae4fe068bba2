-- Sets of state numbers as bits of a list of bytes: the number n is bit n % 8 of byte n / 8.
use Rattle.std.specs.Prelude.{◌≡◌, Bool, false, cond, List, ℕ, zero, suc, ◌-◌, ◌/◌, ◌%◌, ◌^◌, ◌<◌, ◌≤◌, eqb, get_or, set}
use Rattle.std.specs.Int.Bits.{bit_or}
use Rattle.states.specs.StateNumbers.{state_count}

-- how many bytes a set of all state numbers takes
abbrev pub set_length : ℕ
set_length = 512

unfoldable pub member : List ℕ → ℕ → Bool
member l n = eqb (get_or l (n / 8) 0 / 2 ^ (n % 8) % 2) 1

-- the set with one number more
unfoldable pub inserted : List ℕ → ℕ → List ℕ
inserted l n = set l (n / 8) (bit_or (get_or l (n / 8) 0) (2 ^ (n % 8)))

-- the bytes that are looked at at a time
abbrev pub set_block : ℕ
set_block = 64

-- r is n or later, with no member between
pub record NoneFrom (l : List ℕ) (n r : ℕ) : Type 0 where
  pub later : n ≤ r
  pub within : r ≤ state_count
  pub none : (j : ℕ) → n ≤ j → j < r → member l j ≡ false

-- the first of the k numbers from n on that passes the test, or n + k
unfoldable pub first_from : (ℕ → Bool) → ℕ → ℕ → ℕ
first_from test n zero = n
first_from test n (suc k) = cond (test n) n (first_from test (suc n) k)

-- the least member at or after a number, or the number of state numbers
unfoldable pub next_member : List ℕ → ℕ → ℕ
next_member l from = first_from (member l) from (state_count - from)
