-- Request 2.3, steps in one pass: "The part that adds a round promises: handed a log with the limit's records of rounds
-- up to k, whole, it leaves those up to k+1, steps included and the earlier bytes unchanged, wherever the log can hold
-- them."
use Rattle.std.specs.Prelude.{◌≡◌, cond, Option, Some, None, Result, Ok, Err, List, ℕ, ◌+◌, ◌≤◌, eqb, ltb, length, take}
use Rattle.model.specs.Lists.{is_empty}
use Rattle.model.specs.Systems.{System}
use Rattle.model.specs.Log.{additions, log_at}
use Rattle.model.specs.Records.{log_bytes}
use Rattle.model.specs.Calls.{capacity}
use Rattle.saturate.specs.declared.Full.{Full}

-- how many bytes the records of rounds up to k take
abbrev pub rounds_length : System → ℕ → ℕ
rounds_length sys k = length (log_bytes (log_at sys k))

-- the log's first bytes are the records of rounds up to k, whole: key, reason and steps of each
abbrev pub HoldsRounds : System → ℕ → List ℕ → Type 0
HoldsRounds sys k log = take (rounds_length sys k) log ≡ log_bytes (log_at sys k)

-- the log can hold the records of rounds up to k
abbrev pub CanHold : System → ℕ → List ℕ → Type 0
CanHold sys k log = length (log_at sys k) ≤ capacity (length log)

-- what is told of a round that began with `base` records and came to `count`, or more than n, where the log can hold
-- n: no room, or how many there are, or that it added none
abbrev pub Telling : Type 0
Telling = Result (Option ℕ) Full

abbrev pub full : Full
full = record {}

abbrev pub told : ℕ → ℕ → ℕ → Telling
told base count n = cond (ltb n count) (Err full) (cond (eqb count base) (Ok None) (Ok (Some count)))

-- what adding round k + 1 tells: no room exactly where a log of this length cannot hold the records; else whether it
-- added any, and how many there are then
unfoldable pub round_told : System → ℕ → ℕ → Telling
round_told sys k logLength =
    cond (ltb (capacity logLength) (length (log_at sys (k + 1)))) (Err full)
    (cond (is_empty (additions sys (log_at sys k))) (Ok None) (Ok (Some (length (log_at sys (k + 1))))))

-- Round k + 1 is added to a log that holds the rounds up to k. What the log then holds behind the records, or behind
-- the earlier ones where it cannot hold them all, is not decided.
pub record RoundAdded (sys : System) (k : ℕ) (log : List ℕ) (r : Telling) (log' : List ℕ) : Type 0 where
  pub left : CanHold sys (k + 1) log → HoldsRounds sys (k + 1) log'
  pub earlier : take (rounds_length sys k) log' ≡ take (rounds_length sys k) log
  pub told : r ≡ round_told sys k (length log)
  pub log_length : length log' ≡ length log
