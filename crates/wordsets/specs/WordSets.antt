-- Sets of state numbers in lent bytes, 64 numbers at a time: the bytes of a set as words of 64 bits, the low byte
-- first.
use Rattle.std.specs.Prelude.{◌≡◌, Bool, true, ◌&&◌, ◌||◌, ◌⊎◌, List, ℕ, ◌+◌, ◌-◌, ◌*◌, ◌/◌, ◌%◌, ◌^◌, ◌<◌, ◌≤◌, eqb, leb, ltb, length, get_or}
use Rattle.std.specs.Int.Bits.{bit_and, bit_or}

-- bit j of a number
unfoldable pub has_bit : ℕ → ℕ → Bool
has_bit x j = eqb (x / 2 ^ j % 2) 1

-- the number n is in the set that begins at a byte
unfoldable pub in_set : List ℕ → ℕ → ℕ → Bool
in_set s at n = has_bit (get_or s (at + n / 8) 0) (n % 8)

-- the word t with what the word f has, of the numbers in rest, `after` higher there than `before` here
unfoldable pub word_sum : ℕ → ℕ → ℕ → ℕ → ℕ → ℕ
word_sum f t after before rest = bit_or t (bit_and (f / 2 ^ after) rest * 2 ^ before % 2 ^ 64)

-- the word that has the numbers 8 c + d, with c below `second` and d below `third`
abbrev pub RestBits : ℕ → ℕ → ℕ → Type 0
RestBits rest second third = (m : ℕ) → m < 64 → has_bit rest m ≡ ltb (m / 8) second && ltb (m % 8) third

-- ---- what is added for a record
-- The record's own part is y after it and x before it, both numbers. Number n has the own part x, and its like with the
-- own part y is in the set `from`: in a word that is as far behind the word of y as n's is behind that of x, at a bit
-- of rest.
unfoldable pub gains : List ℕ → ℕ → ℕ → ℕ → ℕ → ℕ → Bool
gains s from y x rest n =
    let m = n % 64 - x % 64 in
    leb (x % 64) (n % 64)
    && (has_bit rest m && (ltb (y % 64 + m) 64 && in_set s from (64 * (n / 64 - x / 64 + y / 64) + (y % 64 + m))))

-- n's word is one of those from low on and below high behind that of x
unfoldable pub in_words : ℕ → ℕ → ℕ → ℕ → Bool
in_words x low high n = leb (x / 64 + low) (n / 64) && ltb (n / 64) (x / 64 + high)

-- of the bytes only those of the set at `to` have changed
pub record OutsideSet (to : ℕ) (s t : List ℕ) : Type 0 where
  pub size : length t ≡ length s
  pub before : (i : ℕ) → i < to → get_or t i 0 ≡ get_or s i 0
  pub behind : (i : ℕ) → to + 512 ≤ i → get_or t i 0 ≡ get_or s i 0

-- the two sets are apart, and lie in the list
pub record SetsApart (s : List ℕ) (from to : ℕ) : Type 0 where
  pub apart : (from + 512 ≤ to) ⊎ (to + 512 ≤ from)
  pub from_room : from + 512 ≤ length s
  pub to_room : to + 512 ≤ length s

-- words low to high of the rest are added for a record; what stands at a bit of `common` behind x is then in the set in
-- each of them
pub record RowAdded (from to y x rest low high : ℕ) (s t : List ℕ) (common : ℕ) : Type 0 where
  pub outside : OutsideSet to s t
  pub members : (n : ℕ) → n < 4096 → in_set t to n ≡ in_set s to n || (in_words x low high n && gains s from y x rest n)
  pub shared : (j w : ℕ) → has_bit common j ≡ true → x % 64 + j < 64 → low ≤ w → w < high
      → in_set t to (64 * (x / 64 + w) + (x % 64 + j)) ≡ true

-- n's word is 8 h + w behind that of x, with h below rows and w below words
unfoldable pub in_block : ℕ → ℕ → ℕ → ℕ → Bool
in_block x rows words n =
    let w = n / 64 - x / 64 in
    leb (x / 64) (n / 64) && (ltb (w / 8) rows && ltb (w % 8) words)

-- everything is added for a record
pub record RecordAdded (from to y x rest rows words : ℕ) (s t : List ℕ) (common : ℕ) : Type 0 where
  pub outside : OutsideSet to s t
  pub members : (n : ℕ) → n < 4096 → in_set t to n ≡ in_set s to n || (in_block x rows words n && gains s from y x rest n)
  pub shared : (j h w : ℕ) → has_bit common j ≡ true → x % 64 + j < 64 → h < rows → w < words
      → in_set t to (64 * (x / 64 + (8 * h + w)) + (x % 64 + j)) ≡ true

-- the words lie in the sets
pub record BlockFits (y x rows words : ℕ) : Type 0 where
  pub short : words ≤ 8
  pub after : y / 64 + 8 * rows + words ≤ 72
  pub before : x / 64 + 8 * rows + words ≤ 72
