-- Leaders: of each letter and states before the least record of the log. Those of a letter are chained in rising order:
-- link a from leaders_at on is the first leader of letter a, link r from keys_at n on the one behind leader r.
use Rattle.std.specs.Prelude.{◌≡◌, Bool, true, false, cond, ◌&&◌, List, ℕ, ◌+◌, ◌*◌, ◌%◌, ◌<◌, ◌≤◌, eqb, length, get_or}
use Rattle.model.specs.Records.{letter_at}
use Rattle.states.specs.StateSets.{first_from}
use Rattle.packs.specs.Packs.{packed_before}
use Rattle.wordsets.specs.WordSets.{has_bit}
use Rattle.rings.specs.Rings.{record_reads, link_at, RingRoom, Ringed, with_link}
use Rattle.scratch.specs.Regions.{rings_at, keys_at, leaders_at, leaders_end}

-- the log's first count records are in their rings, of n buckets
pub record Linked (log : List ℕ) (count n : ℕ) (s : List ℕ) : Type 0 where
  pub room : RingRoom log count n rings_at s
  pub ringed : Ringed log count n rings_at s

-- ---- leaders
-- no record before r has its letter and states before
unfoldable pub is_leader : List ℕ → ℕ → Bool
is_leader log r = eqb (first_from (record_reads log (letter_at log r) (packed_before log r)) 0 r) r

-- and r reads this letter
unfoldable pub leader_of : List ℕ → ℕ → ℕ → Bool
leader_of log letter r = eqb (letter_at log r) letter && is_leader log r

-- a letter's bit, of 32, is among these
abbrev pub among : ℕ → ℕ → Bool
among letters letter = has_bit letters (letter % 32)

-- r is a leader, and its letter's bit is among these
unfoldable pub leader_among : List ℕ → ℕ → ℕ → Bool
leader_among log letters r = among letters (letter_at log r) && is_leader log r

-- ---- chains
-- x is the first number from `from` on and below base that passes; where none does, x is not below base
pub record FirstBelow (test : ℕ → Bool) (from base x : ℕ) : Type 0 where
  pub before : (j : ℕ) → from ≤ j → j < x → j < base → test j ≡ false
  pub low : x < base → from ≤ x
  pub passes : x < base → test x ≡ true

-- the leaders from `from` on and below count are chained, of each letter whose bit is among these
pub record Chained (log : List ℕ) (letters from count n : ℕ) (s : List ℕ) : Type 0 where
  pub first : (letter : ℕ) → letter < 256 → among letters letter ≡ true
      → FirstBelow (leader_of log letter) from count (link_at s leaders_at letter)
  pub next : (r : ℕ) → from ≤ r → r < count → is_leader log r ≡ true → among letters (letter_at log r) ≡ true
      → FirstBelow (leader_of log (letter_at log r)) (r + 1) count (link_at s (keys_at n) r)

-- of the bytes only those of the leaders' links have changed
pub record OutsideLeaders (n : ℕ) (s t : List ℕ) : Type 0 where
  pub size : length t ≡ length s
  pub before : (i : ℕ) → i < leaders_at → get_or t i 0 ≡ get_or s i 0
  pub between : (i : ℕ) → leaders_end ≤ i → i < keys_at n → get_or t i 0 ≡ get_or s i 0
  pub behind : (i : ℕ) → keys_at n + 2 * n ≤ i → get_or t i 0 ≡ get_or s i 0

-- the leaders of the log's first count records are chained, and nothing else has changed
pub record LeadersChained (log : List ℕ) (letters count n : ℕ) (s t : List ℕ) : Type 0 where
  pub outside : OutsideLeaders n s t
  pub chained : Chained log letters 0 count n t

-- record r in front of the leaders of letter a
unfoldable pub with_leader : ℕ → List ℕ → ℕ → ℕ → List ℕ
with_leader n s a r = with_link (with_link s (keys_at n) r (link_at s leaders_at a)) leaders_at a r

-- record r in front of its letter's leaders, if it is one of those that are asked for
unfoldable pub with_record : List ℕ → ℕ → ℕ → List ℕ → ℕ → List ℕ
with_record log letters n s r = cond (leader_among log letters r) (with_leader n s (letter_at log r) r) s
