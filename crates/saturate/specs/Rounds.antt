-- A round, as the code holds it: what it starts from, what its scratch holds, and what it adds.
use Rattle.std.specs.Prelude.{◌≡◌, true, List, ℕ, ◌+◌, ◌-◌, ◌*◌, ◌%◌, ◌<◌, ◌≤◌, length, take}
use Rattle.model.specs.Log.{Record, log_at}
use Rattle.model.specs.Records.{letter_at, log_bytes, record_length}
use Rattle.model.specs.Calls.{capacity}
use Rattle.scratch.specs.Regions.{active_at, keys_at, links_end, rings_at}
use Rattle.rings.specs.Rings.{OutsideSame, Ringed}
use Rattle.keys.specs.Keys.{Indexed}
use Rattle.table.specs.declared.Table.{Table}
use Rattle.table.specs.Reading.{Holds, saturated_in}
use Rattle.rules.specs.Regions.{KeptOutside, position_bytes}
use Rattle.rules.specs.Rules.{AllActive, Gathered, has_letter, letter_ceiling}
use Rattle.heads.specs.Rounds.{Prepared}
use Rattle.saturate.specs.Adding.{HoldsRounds}

-- the first count records of the log are these
pub record Logged (records : List Record) (count : ℕ) (log : List ℕ) : Type 0 where
  pub size : count ≡ length records
  pub bytes : take (count * record_length) log ≡ log_bytes records

-- ---- the scratch
-- the rules are in order, and no record is in a ring or in the index
pub record ScratchReady (table : List ℕ) (t : Table) (n : ℕ) (log s s' : List ℕ) : Type 0 where
  pub size : length s' ≡ length s
  pub prepared : Prepared table t s'
  pub ringed : Ringed log 0 n rings_at s'
  pub indexed : Indexed log 0 n (keys_at n) s'

-- the letters with one more; only the low five bits of its number count
pub record LetterIn (letters a letters' : ℕ) : Type 0 where
  pub has : has_letter letters' (a % letter_ceiling) ≡ true
  pub kept : (b : ℕ) → has_letter letters b ≡ true → has_letter letters' b ≡ true

-- the letters of the records from lo on and below base are among these
abbrev pub FreshLetters : List ℕ → ℕ → ℕ → ℕ → Type 0
FreshLetters log lo base letters =
    (i : ℕ) → lo ≤ i → i < base → has_letter letters (letter_at log i % letter_ceiling) ≡ true

-- the positions that the round looks at are active
pub record Activated (t : Table) (number fresh : ℕ) (s s' : List ℕ) : Type 0 where
  pub kept : KeptOutside active_at position_bytes s s'
  pub first : number ≡ 1 → AllActive t.rules s s'
  pub later : (number ≡ 1 → ⊥) → Gathered fresh t.letters s s'

-- the keys of the records below base are indexed, where the first active position is one of a rule
pub record KeysIndexed (t : Table) (base n position : ℕ) (log s s' : List ℕ) : Type 0 where
  pub outside : OutsideSame (4 * n) (keys_at n) s s'
  pub indexed : position < t.rules → Indexed log base n (keys_at n) s'

-- ---- rounds
-- Round k + 1 may begin: the log holds the rounds up to k, the records below lo are in rings and indexed, and there is
-- room for n records, as many as the log can hold, and their links.
pub record RoundBegins (table : List ℕ) (t : Table) (lo base n k : ℕ) (log s : List ℕ) : Type 0 where
  pub holds : Holds table t
  pub handed : HoldsRounds (saturated_in table) k log
  pub size : base ≡ length (log_at (saturated_in table) k)
  -- each round added a record
  pub late : k ≤ base
  -- the records of round k are those from lo on
  pub low : lo ≤ base
  pub last : 1 ≤ k → lo ≡ length (log_at (saturated_in table) (k - 1))
  pub room : n ≡ capacity (length log)
  pub fits : base ≤ n
  pub scratch : links_end n ≤ length s
  pub ringed : Ringed log lo n rings_at s
  pub indexed : Indexed log lo n (keys_at n) s
  pub prepared : Prepared table t s

-- the earlier records are in rings and, where the round adds some and the log can hold them, indexed, and the rules in
-- order; what the rest of the scratch holds is not decided
pub record RoundScratch (table : List ℕ) (t : Table) (base n k : ℕ) (log s s' : List ℕ) : Type 0 where
  pub ringed : Ringed log base n rings_at s'
  pub indexed : base < length (log_at (saturated_in table) (k + 1)) → length (log_at (saturated_in table) (k + 1)) ≤ n
      → Indexed log base n (keys_at n) s'
  pub prepared : Prepared table t s'
  pub size : length s' ≡ length s
