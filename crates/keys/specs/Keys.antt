-- An index in scratch of the log's records by their keys: letter, states before, states after. Link h is the greatest
-- record of bucket h, for each h below the number n of buckets; link n + r is the next smaller record in r's bucket.
use Rattle.std.specs.Prelude.{Bool, false, ◌&&◌, ◌||◌, ◌⊎◌, List, ℕ, zero, suc, ◌+◌, ◌*◌, ◌<◌, ◌≤◌, eqb, length}
use Rattle.model.specs.Records.{record_length, letter_at}
use Rattle.packs.specs.Packs.{packed_number, packed_after, packed_before}
use Rattle.rings.specs.Rings.{mixer, scaled_to, record_reads, no_link, link_at, NoTail, Greatest, with_link}

-- ---- buckets
-- the factor that mixes the number of the states after
abbrev pub end_mixer : ℕ
end_mixer = 506952111

-- the bucket, of n, of a letter, the states before as one number and the number x of the states after
unfoldable pub key_bucket_of : ℕ → ℕ → ℕ → ℕ → ℕ
key_bucket_of n letter g x = scaled_to n ((g + 8 * letter) * mixer + x * end_mixer)

-- the bucket of record r
unfoldable pub key_bucket_at : List ℕ → ℕ → ℕ → ℕ
key_bucket_at log n r = key_bucket_of n (letter_at log r) (packed_before log r) (packed_number (packed_after log r))

-- record r is in bucket h
unfoldable pub in_key_bucket : List ℕ → ℕ → ℕ → ℕ → Bool
in_key_bucket log n h r = eqb (key_bucket_at log n r) h

-- ---- keys
-- record i reads the letter with the states g before and has the end x
abbrev pub has_key : List ℕ → ℕ → ℕ → ℕ → ℕ → Bool
has_key log letter g x i = record_reads log letter g i && eqb x (packed_number (packed_after log i))

-- some record below n does
abbrev pub held_below : List ℕ → ℕ → ℕ → ℕ → ℕ → Bool
held_below log letter g zero x = false
held_below log letter g (suc n) x = held_below log letter g n x || has_key log letter g x n

-- ---- the index
-- there is room for the index of the log's first base records in n buckets, from the offset at on
pub record KeyRoom (log : List ℕ) (base n at : ℕ) (s : List ℕ) : Type 0 where
  pub fits : base ≤ n
  pub short : n ≤ no_link
  pub records : base * record_length ≤ length log
  pub room : at + 4 * n ≤ length s

-- the records below base are in their buckets, each bucket from its greatest record down
pub record Indexed (log : List ℕ) (base n at : ℕ) (s : List ℕ) : Type 0 where
  pub first : (h : ℕ) → h < n
      → NoTail (in_key_bucket log n h) base (link_at s at h) ⊎ Greatest (in_key_bucket log n h) base (link_at s at h)
  pub next : (r : ℕ) → r < base
      → NoTail (in_key_bucket log n (key_bucket_at log n r)) r (link_at s at (n + r))
      ⊎ Greatest (in_key_bucket log n (key_bucket_at log n r)) r (link_at s at (n + r))

-- record r in front of its bucket
unfoldable pub pushed : List ℕ → ℕ → ℕ → List ℕ → ℕ → List ℕ
pushed log n at s r = let h = key_bucket_at log n r in with_link (with_link s at (n + r) (link_at s at h)) at h r
