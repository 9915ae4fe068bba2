-- The limit, as the code holds it.
use Rattle.std.specs.Prelude.{◌≡◌, Result, Ok, Err, List, ℕ, ◌<◌, ◌≤◌, length}
use Rattle.model.specs.Log.{limit, rounds}
use Rattle.scratch.specs.Regions.{rings_at}
use Rattle.rings.specs.Rings.{RingRoom, Ringed}
use Rattle.table.specs.Reading.{saturated_in}
use Rattle.saturate.specs.declared.Full.{Full}
use Rattle.saturate.specs.declared.Limit.{Limit}
use Rattle.saturate.specs.Rounds.{Logged}

-- the log begins with the records of the limit, and they are in rings
pub record SaturatedLimit (table : List ℕ) (n : ℕ) (log s : List ℕ) (count last : ℕ) (log' s' : List ℕ) : Type 0 where
  pub logged : Logged (limit (saturated_in table)) count log'
  pub last_round : last ≡ rounds (limit (saturated_in table))
  pub fits : count ≤ n
  pub linked : RingRoom log' count n rings_at s' × Ringed log' count n rings_at s'
  pub log_length : length log' ≡ length log
  pub scratch_length : length s' ≡ length s

-- or has no room for them
pub record SaturatedFull (table : List ℕ) (n : ℕ) (log s log' s' : List ℕ) : Type 0 where
  pub over : n < length (limit (saturated_in table))
  pub log_length : length log' ≡ length log
  pub scratch_length : length s' ≡ length s

abbrev pub SaturatedDone : List ℕ → ℕ → List ℕ → List ℕ → Result Limit Full → List ℕ → List ℕ → Type 0
SaturatedDone table n log s (Ok l) log' s' = SaturatedLimit table n log s l.count l.rounds log' s'
SaturatedDone table n log s (Err e) log' s' = SaturatedFull table n log s log' s'
