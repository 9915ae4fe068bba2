-- Rings of the log's records in scratch, appended round by round. Link h is the tail of bucket h, its greatest record,
-- for each h below the number n of buckets; link n + r is the record after r in r's bucket, and behind the greatest the
-- least; link 2 n + h is the first record of bucket h from a record lo on.
use Rattle.std.specs.Prelude.{◌≡◌, Bool, true, false, cond, ◌&&◌, ◌⊎◌, List, ℕ, suc, ◌+◌, ◌-◌, ◌*◌, ◌/◌, ◌%◌, ◌<◌, ◌≤◌, eqb, ltb, length, get_or}
use Rattle.model.specs.Records.{record_length, letter_at, number_at}
use Rattle.numbers.specs.NumberBytes.{with_number}
use Rattle.states.specs.StateSets.{first_from}
use Rattle.packs.specs.Packs.{packed_before}

-- ---- buckets
-- the factor that mixes a letter and the states before
abbrev pub mixer : ℕ
mixer = 820265763

-- the middle bits of a mixed number, scaled to n
abbrev pub scaled_to : ℕ → ℕ → ℕ
scaled_to n mixed = (mixed / 65536 % 65536) * n / 65536

-- the bucket, of n, of a letter and the states before as one number
unfoldable pub bucket_of : ℕ → ℕ → ℕ → ℕ
bucket_of n letter g = scaled_to n ((g + 8 * letter) * mixer)

unfoldable pub record_bucket : List ℕ → ℕ → ℕ → ℕ
record_bucket log n r = bucket_of n (letter_at log r) (packed_before log r)

unfoldable pub in_bucket : List ℕ → ℕ → ℕ → ℕ → Bool
in_bucket log n h r = eqb (record_bucket log n r) h

-- record i reads the letter with the states g before
unfoldable pub record_reads : List ℕ → ℕ → ℕ → ℕ → Bool
record_reads log letter g i = eqb (letter_at log i) letter && eqb (packed_before log i) g

-- ---- links
-- FFFF is no record
abbrev pub no_link : ℕ
no_link = 65535

-- where link k stands
abbrev pub link_place : ℕ → ℕ → ℕ
link_place at k = at + 2 * k

abbrev pub link_at : List ℕ → ℕ → ℕ → ℕ
link_at s at k = number_at 2 s (link_place at k)

-- of the bytes s only those from at on and below at + width have changed
pub record OutsideSame (width at : ℕ) (s t : List ℕ) : Type 0 where
  pub size : length t ≡ length s
  pub before : (i : ℕ) → i < at → get_or t i 0 ≡ get_or s i 0
  pub behind : (i : ℕ) → at + width ≤ i → get_or t i 0 ≡ get_or s i 0

-- the first n links are none, and no other byte has changed
pub record Unlinked (n at : ℕ) (s t : List ℕ) : Type 0 where
  pub none : (k : ℕ) → k < n → link_at t at k ≡ no_link
  pub same : OutsideSame (2 * n) at s t

-- ---- rings
-- there is room for the rings of the log's first base records in n buckets, from the offset at on
pub record RingRoom (log : List ℕ) (base n at : ℕ) (s : List ℕ) : Type 0 where
  pub fits : base ≤ n
  pub short : n ≤ no_link
  pub records : base * record_length ≤ length log
  pub room : at + 6 * n ≤ length s

-- none from one number on and below another passes
abbrev pub NoneIn : (ℕ → Bool) → ℕ → ℕ → Type 0
NoneIn test from to = (j : ℕ) → from ≤ j → j < to → test j ≡ false

-- t is no link, and none below base passes; t is the greatest number below base that passes
pub record NoTail (test : ℕ → Bool) (base t : ℕ) : Type 0 where
  pub is : t ≡ no_link
  pub none : NoneIn test 0 base

pub record Greatest (test : ℕ → Bool) (base t : ℕ) : Type 0 where
  pub below : t < base
  pub passes : test t ≡ true
  pub behind : NoneIn test (suc t) base

-- w is the next number that passes after r; there is none after r, and w is the least
pub record Ahead (test : ℕ → Bool) (base r w : ℕ) : Type 0 where
  pub later : r < w
  pub below : w < base
  pub passes : test w ≡ true
  pub between : NoneIn test (suc r) w

pub record Around (test : ℕ → Bool) (base r w : ℕ) : Type 0 where
  pub earlier : w ≤ r
  pub passes : test w ≡ true
  pub behind : NoneIn test (suc r) base
  pub before : NoneIn test 0 w

-- the records below base are in their rings
pub record Ringed (log : List ℕ) (base n at : ℕ) (s : List ℕ) : Type 0 where
  pub tail : (h : ℕ) → h < n
      → NoTail (in_bucket log n h) base (link_at s at h) ⊎ Greatest (in_bucket log n h) base (link_at s at h)
  pub next : (r : ℕ) → r < base
      → Ahead (in_bucket log n (record_bucket log n r)) base r (link_at s at (n + r))
      ⊎ Around (in_bucket log n (record_bucket log n r)) base r (link_at s at (n + r))

-- the first record from lo on is known of each bucket that has one
abbrev pub Freshened : List ℕ → ℕ → ℕ → ℕ → ℕ → List ℕ → Type 0
Freshened log lo base n at s =
    (h : ℕ) → h < n → lo ≤ link_at s at h → link_at s at h < base
    → link_at s at (2 * n + h) ≡ first_from (in_bucket log n h) lo (base - lo)

-- ---- one record more
-- link k is x
abbrev pub with_link : List ℕ → ℕ → ℕ → ℕ → List ℕ
with_link s at k x = with_number 2 s (link_place at k) x

-- record r alone in bucket h
unfoldable pub started : ℕ → ℕ → List ℕ → ℕ → ℕ → List ℕ
started n at s h r = with_link (with_link (with_link s at (n + r) r) at (2 * n + h) r) at h r

-- record r behind the tail t of bucket h
unfoldable pub lengthened : ℕ → ℕ → List ℕ → ℕ → ℕ → ℕ → List ℕ
lengthened n at s h t r = with_link (with_link (with_link s at (n + r) (link_at s at (n + t))) at (n + t) r) at h r

unfoldable pub appended : List ℕ → ℕ → ℕ → ℕ → List ℕ → ℕ → List ℕ
appended log n at lo s r =
    let h = record_bucket log n r in
    let t = link_at s at h in
    cond (eqb t no_link) (started n at s h r)
    (cond (ltb t lo) (lengthened n at (with_link s at (2 * n + h) r) h t r) (lengthened n at s h t r))
