-- Parts of the scratch: bytes written one after the other, and sets of positions.
use Rattle.std.specs.Prelude.{◌≡◌, Bool, ◌||◌, ◌⊎◌, List, ℕ, ◌+◌, ◌/◌, ◌%◌, ◌^◌, ◌<◌, ◌≤◌, drop, get_or, length, set}
use Rattle.std.specs.Int.Bits.{bit_or}
use Rattle.states.specs.StateSets.{member}

-- byte i is none of the n bytes from `at` on
abbrev pub Outside : ℕ → ℕ → ℕ → Type 0
Outside at n i = (i < at) ⊎ (at + n ≤ i)

-- only these n bytes may have changed
pub record KeptOutside (at n : ℕ) (s t : List ℕ) : Type 0 where
  pub size : length t ≡ length s
  pub outside : (i : ℕ) → Outside at n i → get_or t i 0 ≡ get_or s i 0

-- these n bytes have been written
pub record BytesWritten (at : ℕ) (byte : ℕ → ℕ) (n : ℕ) (s t : List ℕ) : Type 0 where
  pub kept : KeptOutside at n s t
  pub bytes : (j : ℕ) → j < n → get_or t (at + j) 0 ≡ byte j

-- ---- sets of positions
-- the bytes of a set, and the positions that it may have
abbrev pub position_bytes : ℕ
position_bytes = 32

abbrev pub position_ceiling : ℕ
position_ceiling = 256

-- position p is in the set that begins at a byte
unfoldable pub has_position : List ℕ → ℕ → ℕ → Bool
has_position s at p = member (drop at s) p

-- the bytes with p in that set
unfoldable pub with_position : List ℕ → ℕ → ℕ → List ℕ
with_position s at p = set s (at + p / 8) (bit_or (get_or s (at + p / 8) 0) (2 ^ (p % 8)))

-- the set at `to` has got the positions of that at `from`
pub record SetAdded (from to : ℕ) (s t : List ℕ) : Type 0 where
  pub kept : KeptOutside to position_bytes s t
  pub positions : (p : ℕ) → p < position_ceiling → has_position t to p ≡ has_position s to p || has_position s from p
